-- What the least controller of a subnetwork reaches alone, and the controllers that it does not reach.
use Rattle.std.specs.Prelude.{Bool, not, ◌&&◌, List, map, filter, Option, option_to_list}
use Rattle.un_defs.specs.declared.port.Port.{Port}
use Rattle.un_defs.specs.declared.port.Node.{Node}
use Rattle.un_defs.specs.declared.walk.Mode.TheVariants.{Any}
use Rattle.un_defs.specs.declared.walk.Barriers.{Barriers}
use Rattle.un_defs.specs.Orders.{least, port_cmp, node_cmp}
use Rattle.un_defs.specs.Ground.{Ground}
use Rattle.un_defs.specs.Reach.{leads}
use Rattle.un_walk.specs.Growth.{has_node}
use Rattle.un_walk.specs.Spread.{reached_in}

-- a walk goes from one of the nodes to another
abbrev pub leads_among : Ground → Barriers → List Node → Node → Node → Bool
leads_among G B nodes n m = (has_node nodes n && has_node nodes m) && leads G B Any n m

-- the least start alone
abbrev pub least_start : List Node → List Node
least_start starts = option_to_list (least node_cmp starts)

-- of the nodes that walks from all starts reach, those that walks from the least start reach
abbrev pub reached_alone : Ground → Barriers → List Node → List Node → List Node
reached_alone G B starts reached = reached_in (leads_among G B reached) reached (least_start starts)

-- the ports of the starts that are not among the nodes
abbrev pub ports_outside : List Node → List Node → List Port
ports_outside nodes starts = map (λ n. n.port) (filter (λ n. not (has_node nodes n)) starts)

-- the least port of a start that the least start does not reach
abbrev pub least_apart : Ground → Barriers → List Node → List Node → Option Port
least_apart G B starts reached = least port_cmp (ports_outside (reached_alone G B starts reached) starts)
