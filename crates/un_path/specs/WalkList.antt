-- The walks from a node as a list, the best of them, and what is found of them.
use Rattle.std.specs.Prelude.{ℕ, zero, suc, Bool, false, if◌then◌else◌, List, [], ◌∷◌, map, filter, flat_map, length, Option, unwrap_or}
use Rattle.std.specs.Option.{option_map, option_map_or}
use Rattle.un_defs.specs.declared.port.Node.{Node}
use Rattle.un_defs.specs.Orders.{least, same_node}
use Rattle.un_defs.specs.Reach.{last_node}
use Rattle.un_ask.specs.declared.results.Label.{Label}
use Rattle.un_path.specs.declared.answer.PathFound.{PathFound}
use Rattle.un_path.specs.Costs.{walk_cost}
use Rattle.un_path.specs.Paths.{walk_cmp, ports_of}

-- the walks from a node that go on over these nodes and have at most so many
abbrev pub walks_from : (Node → Node → Bool) → List Node → ℕ → Node → List (List Node)
walks_from step nodes zero n = []
walks_from step nodes (suc k) n = (n ∷ []) ∷ map (λ ms. n ∷ ms) (flat_map (walks_from step nodes k) (filter (step n) nodes))

-- the last of these nodes is this one
abbrev pub ends_in : Node → List Node → Bool
ends_in to [] = false
ends_in to (n ∷ ms) = same_node (last_node n ms) to

-- the walks between two nodes that have at most as many nodes as are reached: the best walk comes to no node twice, so it is one of them
abbrev pub walks_between : (Node → Node → Bool) → List Node → Node → Node → List (List Node)
walks_between step reached from to = filter (ends_in to) (walks_from step reached (length reached) from)

module _ (step : Node → Node → Bool) (cost : Node → Node → ℕ) (from : Node) (reached : List Node) where
  -- the walk to the node that comes before all others
  abbrev pub best_walk : Node → Option (List Node)
  best_walk to = least (walk_cmp cost) (walks_between step reached from to)

  -- what it costs, if there is one
  abbrev pub best_cost : Node → Option ℕ
  best_cost to = option_map (walk_cost cost) (best_walk to)

  -- the port of a reached node, with what the best walk to it costs
  abbrev pub label_of : Node → Label
  label_of n = record { port = n.port; cost = unwrap_or (best_cost n) 0 }

  -- the cost and the ports of the best walk, or neither where there is no walk, and a label for each reached node where these are asked for
  abbrev pub path_found : Node → Bool → PathFound
  path_found to certificate = record {
    cost = best_cost to;
    nodes = option_map_or ports_of (best_walk to) [];
    labels = if certificate then map label_of reached else [];
  }
