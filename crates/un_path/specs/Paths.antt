-- The best walk from one node to another, the labels of the reached nodes, and what a query for a path is told.
use Rattle.std.specs.Prelude.{◌≡◌, ℕ, ◌≤◌, Bool, true, false, List, [], ◌∷◌, map, length, reverse, Contains, IsTrue, MatchOption}
use Rattle.std.specs.declared.cmp.Ordering.{Ordering}
use Rattle.std.specs.Ordering.{nat_cmp, ordering_then, is_le}
use Rattle.std.specs.Cmp.Lexicographic.{slice_cmp}
use Rattle.un_defs.specs.declared.port.Port.{Port}
use Rattle.un_defs.specs.declared.port.Node.{Node}
use Rattle.un_defs.specs.Orders.{node_cmp}
use Rattle.un_defs.specs.Reach.{Follow, last_node}
use Rattle.un_ask.specs.declared.results.Label.{Label}
use Rattle.un_path.specs.declared.answer.PathFound.{PathFound}
use Rattle.un_path.specs.Costs.{walk_cost}

-- the nodes of a walk from one node to another, both included
pub record IsWalk (step : Node → Node → Bool) (from to : Node) (nodes : List Node) : Type 0 where
  pub rest : List Node
  pub begins : nodes ≡ from ∷ rest
  pub follows : Follow step from rest
  pub ends : last_node from rest ≡ to

-- walks compare by their cost, then by the number of their nodes, then by their nodes read from the last to the first
abbrev pub walk_cmp : (Node → Node → ℕ) → List Node → List Node → Ordering
walk_cmp cost xs ys =
    ordering_then (nat_cmp (walk_cost cost xs) (walk_cost cost ys)) (ordering_then (nat_cmp (length xs) (length ys)) (slice_cmp node_cmp (reverse xs) (reverse ys)))

-- a walk that no other walk comes before
pub record IsBestWalk (step : Node → Node → Bool) (cost : Node → Node → ℕ) (from to : Node) (nodes : List Node) : Type 0 where
  pub walk : IsWalk step from to nodes
  pub best : (others : List Node) → IsWalk step from to others → IsTrue (is_le (walk_cmp cost nodes others))

-- some walk costs so much, and none less
pub record IsLeastCost (step : Node → Node → Bool) (cost : Node → Node → ℕ) (from to : Node) (c : ℕ) : Type 0 where
  pub nodes : List Node
  pub walk : IsWalk step from to nodes
  pub costs : walk_cost cost nodes ≡ c
  pub least : (others : List Node) → IsWalk step from to others → c ≤ walk_cost cost others

abbrev pub ports_of : List Node → List Port
ports_of nodes = map (λ n. n.port) nodes

abbrev pub label_ports : List Label → List Port
label_ports labels = map (λ l. l.port) labels

-- the labels have the ports of the reached nodes, in order, each with the least cost of a walk to its node
pub record AreLeastCosts (step : Node → Node → Bool) (cost : Node → Node → ℕ) (from : Node) (reached : List Node) (labels : List Label) : Type 0 where
  pub ports : label_ports labels ≡ ports_of reached
  pub least : (n : Node) (l : Label) → Contains reached n → Contains labels l → l.port ≡ n.port → IsLeastCost step cost from n l.cost

-- the answer has this walk's cost and its ports
pub record IsToldOf (cost : Node → Node → ℕ) (found : PathFound) (c : ℕ) (nodes : List Node) : Type 0 where
  pub costs : walk_cost cost nodes ≡ c
  pub ports : found.nodes ≡ ports_of nodes

-- what is found of walks from one node to another: the best walk's cost and ports, or neither where there is no walk, and the labels where they are asked for
pub record IsPathFound (step : Node → Node → Bool) (cost : Node → Node → ℕ) (from to : Node) (certificate : Bool) (reached : List Node) (found : PathFound) : Type 0 where
  pub path : MatchOption found.cost
      ((found.nodes ≡ []) × ((nodes : List Node) → IsWalk step from to nodes → ⊥))
      (λ c. (nodes : List Node) × IsBestWalk step cost from to nodes × IsToldOf cost found c nodes)
  pub labels : certificate ≡ true → AreLeastCosts step cost from reached found.labels
  pub bare : certificate ≡ false → found.labels ≡ []
