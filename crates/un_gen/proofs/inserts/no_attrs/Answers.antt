use Rattle.std.proofs.Common.{◌≡◌, ℕ, ℤ, List, []}
use Rattle.std.specs.List.Sorted.{IsStrictlySortedBy}
use Rattle.un_defs.specs.NamedAttributes.{IsNamedAttrs}
use Rattle.un_gen.proofs.inserts.no_attrs.Goals as goal

-- no names rise
none_named : (pairs : List (List ℕ × ℤ)) → pairs ≡ [] → IsNamedAttrs pairs
unfolding IsStrictlySortedBy
none_named pairs is = rw is (record { rising = tt })

pub new-requires-2 : goal.new-requires-2
new-requires-2 c = none_named _ c.new.ensures.items
