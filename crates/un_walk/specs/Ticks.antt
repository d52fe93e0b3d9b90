-- When a walk looks up one star for each node.
use Rattle.std.specs.Prelude.{◌≡◌, ◌⊎◌, Contains, IsTrue, None}
use Rattle.un_defs.specs.declared.port.Node.{Node}
use Rattle.un_defs.specs.declared.link.Tie.{Tie}
use Rattle.un_defs.specs.declared.walk.Barriers.{Barriers}
use Rattle.un_defs.specs.Ground.{Ground, ties}
use Rattle.un_defs.specs.Reach.{is_open, is_path}

-- a link of the node asks for no star at another point: no controllers are asked for, or, if it is a path, it stays at the node's point
abbrev pub TieStays : Barriers → Node → Tie → Type 0
TieStays B n t = (B.tier ≡ None) ⊎ (IsTrue (is_path t.name) → t.to.at ≡ n.at)

-- no link of the node does
abbrev pub TiesStay : Ground → Barriers → Node → Type 0
TiesStay G B n = (t : Tie) → Contains (ties G n) t → TieStays B n t

-- a walk without a tier asks for no controllers, and one with a tier finds those of both ends of a path in one star
-- where each path by which it may go on joins two nodes at one point
abbrev pub IsLookedUpOnce : Ground → Barriers → Type 0
IsLookedUpOnce G B = (B.tier ≡ None) ⊎ ((n : Node) (t : Tie) → IsTrue (is_open G B n) → Contains (ties G n) t → IsTrue (is_path t.name) → t.to.at ≡ n.at)
