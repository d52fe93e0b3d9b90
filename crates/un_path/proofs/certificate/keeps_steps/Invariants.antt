use Rattle.std.proofs.Common.{◌≡◌, ℕ, ◌+◌, ◌<◌, ◌≤◌, Some}
use Rattle.std.specs.Prelude.{Contains, IsTrue}
use Rattle.un_defs.specs.declared.port.Node.{Node}
use Rattle.un_defs.specs.declared.walk.Mode.TheVariants.{Any}
use Rattle.un_defs.specs.Reach.{leads}
use Rattle.un_path.specs.Costs.{step_cost}
use Rattle.un_path.specs.Hops.{IsAt}
use Rattle.un_path.specs.Valid.{label_at}
use Rattle.un_path.proofs.certificate.keeps_steps.Given as goal

-- the steps from the nodes before the place keep to the labels
abbrev pub invariant-loop-place : goal.invariant-loop-place
invariant-loop-place g l =
    let G = g.G.Ground.stars_and_areas l.over in
    (i : ℕ) (n m : Node) (a b : ℕ) → i < l.place → IsAt l.nodes i n → Contains l.nodes m → label_at l.«_labels» n.port ≡ Some a → label_at l.«_labels» m.port ≡ Some b
    → IsTrue (leads G l.barriers Any n m) → b ≤ a + step_cost G l.barriers l.weight n m
