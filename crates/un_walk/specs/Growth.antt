-- Lists of nodes that a walk has found, and how they grow.
use Rattle.std.specs.Prelude.{◌≡◌, Bool, true, List, [], ◌∷◌, ◌++◌, Contains, if◌then◌else◌}
use Rattle.std.specs.List.{list_any}
use Rattle.un_defs.specs.declared.port.Node.{Node}
use Rattle.un_defs.specs.Orders.{same_node}

-- the list has the node
abbrev pub has_node : List Node → Node → Bool
has_node ns n = list_any (same_node n) ns

-- the list with the node at its end, unless it is there already
abbrev pub with_node : List Node → Node → List Node
with_node ns n = if has_node ns n then ns else ns ++ n ∷ []

-- the new list is the old one with more at its end: nodes that pass the test
pub record GrowsBy (old new : List Node) (next : Node → Bool) : Type 0 where
  pub more : List Node
  pub is : new ≡ old ++ more
  pub only : (n : Node) → Contains more n → next n ≡ true
