-- The reached nodes by their places, and the steps that lead from them.
use Rattle.std.specs.Prelude.{◌≡◌, ℕ, ◌≤◌, false, if◌then◌else◌, List, Contains, Some, None, slice_get, IsTrue}
use Rattle.std.specs.List.Sorted.{IsStrictlySortedBy}
use Rattle.un_defs.specs.declared.port.Node.{Node}
use Rattle.un_defs.specs.declared.link.Tie.{Tie}
use Rattle.un_defs.specs.declared.star.Spot.{Spot}
use Rattle.un_defs.specs.declared.walk.Mode.TheVariants.{Any}
use Rattle.un_defs.specs.declared.walk.Barriers.{Barriers}
use Rattle.un_defs.specs.Orders.{node_cmp}
use Rattle.un_defs.specs.Ground.{Ground, is_dirty}
use Rattle.un_defs.specs.Linked.{HaveOwnPorts}
use Rattle.un_defs.specs.Reach.{leads}
use Rattle.un_walk.specs.declared.seen.Seen.{Seen}
use Rattle.un_walk.specs.Seen.{nodes_of, HaveEntries}
use Rattle.un_ask.specs.declared.typed.Weight.{Weight}
use Rattle.un_path.specs.declared.hops.Hop.{Hop}
use Rattle.un_path.specs.Costs.{is_segment, segment_cost, step_cost}

-- what a link costs, by the entry of the node that has it
abbrev pub cost_by : Weight → Spot → Tie → ℕ
cost_by w s t = if is_segment t.name then segment_cost w s.attrs else 0

-- the node stands at the place
abbrev pub IsAt : List Node → ℕ → Node → Type 0
IsAt nodes i n = slice_get nodes i ≡ Some n

-- the hop goes by the link
pub record IsHopBy (w : Weight) (nodes : List Node) (s : Spot) (t : Tie) (h : Hop) : Type 0 where
  pub to : IsAt nodes h.to t.to
  pub costs : h.cost ≡ cost_by w s t

-- each hop goes by one of the links, and each link to one of the nodes has a hop
pub record AreHopsBy (w : Weight) (nodes : List Node) (s : Spot) (ties : List Tie) (hops : List Hop) : Type 0 where
  pub sound : (h : Hop) → Contains hops h → (t : Tie) × Contains ties t × IsHopBy w nodes s t h
  pub whole : (t : Tie) (i : ℕ) → Contains ties t → IsAt nodes i t.to → (h : Hop) × Contains hops h × (h.to ≡ i) × (h.cost ≡ cost_by w s t)

-- the nodes that walks reach over ground without dirt, in order, with their entries: no step leaves them
pub record AreReached (G : Ground) (B : Barriers) (seen : List Seen) (nodes : List Node) : Type 0 where
  pub rising : IsStrictlySortedBy node_cmp nodes
  pub closed : (n m : Node) → Contains nodes n → IsTrue (leads G B Any n m) → Contains nodes m
  pub own_ports : HaveOwnPorts nodes
  pub are : nodes_of seen ≡ nodes
  pub entries : HaveEntries G seen
  pub clean : (n : Node) → Contains nodes n → is_dirty G n.at ≡ false
  pub untiered : B.tier ≡ None

-- each hop goes where a step from the node leads and costs no less, and each step has a hop that costs as much
pub record AreHops (G : Ground) (B : Barriers) (w : Weight) (nodes : List Node) (n : Node) (hops : List Hop) : Type 0 where
  pub sound : (h : Hop) → Contains hops h → (m : Node) × IsAt nodes h.to m × IsTrue (leads G B Any n m) × (step_cost G B w n m ≤ h.cost)
  pub whole : (m : Node) → IsTrue (leads G B Any n m) → (h : Hop) × Contains hops h × IsAt nodes h.to m × (h.cost ≡ step_cost G B w n m)
