-- Attributes by name, as an edit gives them.
use Rattle.std.specs.Prelude.{ℕ, ℤ, List, map}
use Rattle.std.specs.Ordering.{nat_cmp}
use Rattle.std.specs.Cmp.Lexicographic.{slice_cmp}
use Rattle.std.specs.List.Sorted.{IsStrictlySortedBy}

-- the names rise in byte order, so no two are one
pub record IsNamedAttrs (attrs : List (List ℕ × ℤ)) : Type 0 where
  pub rising : IsStrictlySortedBy (slice_cmp nat_cmp) (map (λ pair. pair.0) attrs)
