-- What is looked at in a certificate, by the places of the reached nodes.
use Rattle.std.specs.Prelude.{◌≡◌, ◌↔◌, ℕ, ◌+◌, ◌≤◌, ◌⊎◌, Bool, true, false, List, [], Contains, Option, Some, slice_get, slice_index, MatchOption}
use Rattle.std.specs.Option.{option_map_or}
use Rattle.un_defs.specs.declared.port.Port.{Port}
use Rattle.un_defs.specs.declared.port.Node.{Node}
use Rattle.un_defs.specs.Orders.{same_port}
use Rattle.un_defs.specs.Reach.{Follow, last_node}
use Rattle.un_ask.specs.declared.results.Label.{Label}
use Rattle.un_ask.specs.declared.typed.CheckAsk.{CheckAsk}
use Rattle.un_path.specs.declared.hops.Hop.{Hop}
use Rattle.un_path.specs.declared.walks.WalkEnd.{WalkEnd}
use Rattle.un_path.specs.Costs.{cost_after}
use Rattle.un_path.specs.Hops.{IsAt}
use Rattle.un_path.specs.Paths.{ports_of}
use Rattle.un_path.specs.Valid.{label_at, IsLabelledWalk}

-- each node's label has the cost that stands at the node's place
abbrev pub HaveCosts : List Node → List Label → List ℕ → Type 0
HaveCosts nodes labels costs = (i : ℕ) (n : Node) → IsAt nodes i n → label_at labels n.port ≡ Some (slice_index costs i)

-- a hop keeps to the costs: the place that it leads to has at most the given one and the hop's
abbrev pub KeepsHops : List ℕ → ℕ → List Hop → Type 0
KeepsHops costs c hops = (h : Hop) → Contains hops h → slice_index costs h.to ≤ c + h.cost

-- the hop leads to a node with the port
abbrev pub is_to : List Node → Port → Hop → Bool
is_to nodes q h = option_map_or (λ n. same_port n.port q) (slice_get nodes h.to) false

-- one of the hops to the port, and none of these costs less; or none where no hop leads to it
abbrev pub IsCheapest : List Node → Port → List Hop → Option Hop → Type 0
IsCheapest nodes q hops best = MatchOption best
    ((h : Hop) → Contains hops h → is_to nodes q h ≡ false)
    (λ b. Contains hops b × (is_to nodes q b ≡ true) × ((h : Hop) → Contains hops h → is_to nodes q h ≡ true → b.cost ≤ h.cost))

-- steps from one node go over nodes with these ports to another, and cost so much
pub record Goes (step : Node → Node → Bool) (cost : Node → Node → ℕ) (n : Node) (ports : List Port) (m : Node) (c : ℕ) : Type 0 where
  pub nodes : List Node
  pub follows : Follow step n nodes
  pub over : ports_of nodes ≡ ports
  pub ends : last_node n nodes ≡ m
  pub costs : cost_after cost n nodes ≡ c

-- to go over all the ports is to spend so much on the way to a node, and to go over the rest of them from there
abbrev pub GoesOn : (Node → Node → Bool) → (Node → Node → ℕ) → Node → List Port → Node → List Port → ℕ → Type 0
GoesOn step cost from all here rest spent = (m : Node) (c : ℕ) → Goes step cost from all m c ↔ ((d : ℕ) × Goes step cost here rest m d × (c ≡ spent + d))

-- where steps over the ports end, and what they cost; or none where no steps go so
abbrev pub IsEndOf : (Node → Node → Bool) → (Node → Node → ℕ) → List Node → Node → List Port → Option WalkEnd → Type 0
IsEndOf step cost nodes from ports end = MatchOption end
    ((m : Node) (c : ℕ) → Goes step cost from ports m c → ⊥)
    (λ e. (m : Node) (c : ℕ) → Goes step cost from ports m c ↔ (IsAt nodes e.place m × (c ≡ e.cost)))

-- the walk ends at the node, and costs what stands at its place
abbrev pub EndsAt : List Node → List ℕ → WalkEnd → Node → Type 0
EndsAt nodes costs e to = IsAt nodes e.place to × (slice_index costs e.place ≡ e.cost)

-- the last part of a valid certificate: its walk, or that there is none
abbrev pub HasRightWalk : (Node → Node → Bool) → (Node → Node → ℕ) → List Node → CheckAsk → Type 0
HasRightWalk step cost reached ask =
    ((Contains reached ask.to → ⊥) × (ask.nodes ≡ [])) ⊎ IsLabelledWalk step cost ask.from ask.to ask.nodes ask.labels
