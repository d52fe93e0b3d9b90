-- Certificates: labels of the reached nodes beside a walk, and when they show that no walk costs less.
use Rattle.std.specs.Prelude.{◌≡◌, ◌≢◌, ℕ, ◌+◌, ◌≤◌, ◌⊎◌, Bool, List, [], Contains, IsTrue, Option, Some, find}
use Rattle.std.specs.Option.{option_map}
use Rattle.un_defs.specs.declared.port.Port.{Port}
use Rattle.un_defs.specs.declared.port.Node.{Node}
use Rattle.un_defs.specs.Orders.{same_port}
use Rattle.un_ask.specs.declared.results.Label.{Label}
use Rattle.un_ask.specs.declared.typed.CheckAsk.{CheckAsk}
use Rattle.un_path.specs.Costs.{walk_cost}
use Rattle.un_path.specs.Paths.{IsWalk, ports_of, label_ports}

-- the cost that the labels have for the port
abbrev pub label_at : List Label → Port → Option ℕ
label_at labels q = option_map (λ l. l.cost) (find (λ l. same_port l.port q) labels)

-- where a step leads from one of the nodes to another, the label of the second is at most that of the first and the step's cost
abbrev pub KeepsSteps : (Node → Node → Bool) → (Node → Node → ℕ) → List Node → List Label → Type 0
KeepsSteps step cost nodes labels = (n m : Node) (a b : ℕ) → Contains nodes n → Contains nodes m
    → label_at labels n.port ≡ Some a → label_at labels m.port ≡ Some b → IsTrue (step n m) → b ≤ a + cost n m

-- the ports are those of a walk that costs what the labels have for its last node
pub record IsLabelledWalk (step : Node → Node → Bool) (cost : Node → Node → ℕ) (from to : Node) (shown : List Port) (labels : List Label) : Type 0 where
  pub nodes : List Node
  pub walk : IsWalk step from to nodes
  pub ports : shown ≡ ports_of nodes
  pub costs : label_at labels to.port ≡ Some (walk_cost cost nodes)

-- the labels have the ports of the reached nodes, in order, 0 for the first node of all walks, and no step falls short of them;
-- the ports are those of a walk that costs the label of its last node, or none where that is not reached
pub record IsValid (step : Node → Node → Bool) (cost : Node → Node → ℕ) (reached : List Node) (ask : CheckAsk) : Type 0 where
  pub ports : label_ports ask.labels ≡ ports_of reached
  pub start : label_at ask.labels ask.from.port ≡ Some 0
  pub steps : KeepsSteps step cost reached ask.labels
  pub walk : ((Contains reached ask.to → ⊥) × (ask.nodes ≡ [])) ⊎ IsLabelledWalk step cost ask.from ask.to ask.nodes ask.labels

-- what a valid certificate shows: its walk costs least, and where it has no walk, there is none
pub record ShowsLeast (step : Node → Node → Bool) (cost : Node → Node → ℕ) (from to : Node) (shown : List Port) : Type 0 where
  pub walk : shown ≢ [] → (nodes : List Node) × IsWalk step from to nodes × (shown ≡ ports_of nodes)
      × ((others : List Node) → IsWalk step from to others → walk_cost cost nodes ≤ walk_cost cost others)
  pub none : shown ≡ [] → (nodes : List Node) → IsWalk step from to nodes → ⊥
