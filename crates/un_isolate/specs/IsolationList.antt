-- What an isolation finds among the nodes that walks reach, as lists.
use Rattle.std.specs.Prelude.{Bool, not, ◌&&◌, List, ◌++◌, map, filter, Option}
use Rattle.std.specs.List.{list_any}
use Rattle.un_defs.specs.declared.port.Port.{Port}
use Rattle.un_defs.specs.declared.port.Node.{Node}
use Rattle.un_defs.specs.Orders.{rising, least, port_cmp, same_port, same_node}
use Rattle.un_walk.specs.Spread.{reached_in}
use Rattle.un_isolate.specs.Isolation.{Isolation, is_isolating, is_controlled, goes, goes_inside, inner_starts, shut}

abbrev pub has_node : List Node → Node → Bool
has_node nodes n = list_any (same_node n) nodes

-- a step from one of the nodes to another
abbrev pub steps_among : (Node → Node → Bool) → List Node → Node → Node → Bool
steps_among step nodes n m = (has_node nodes n && has_node nodes m) && step n m

-- what walks over these nodes reach
abbrev pub reached_among : (Node → Node → Bool) → List Node → List Node → List Node
reached_among step nodes starts = reached_in (steps_among step nodes) nodes starts

abbrev pub ports_of : List Node → List Port
ports_of nodes = map (λ n. n.port) nodes

-- the inner nodes
abbrev pub inner_nodes : Isolation → List Node → List Node
inner_nodes I reached = reached_among (goes_inside I) reached (inner_starts I)

-- the nodes of the border
abbrev pub border_nodes : Isolation → List Node → List Node
border_nodes I reached = filter (λ m. is_isolating I m && list_any (λ n. goes I n m) (inner_nodes I reached)) reached

abbrev pub border_ports : Isolation → List Node → List Port
border_ports I reached = rising port_cmp (ports_of (border_nodes I reached))

-- the least port of an inner node or of the border on which a controller of the tier sits
abbrev pub first_in_the_way : Isolation → List Node → Option Port
first_in_the_way I reached = least port_cmp (ports_of (filter (is_controlled I) (inner_nodes I reached ++ border_nodes I reached)))

-- what walks reach once the ports are shut
abbrev pub part_behind : Isolation → List Node → List Port → List Node
part_behind I reached ports = reached_among (goes (shut I ports)) reached I.starts

-- with all other ports of the border shut, a walk still comes to a controller of the tier
abbrev pub is_needed : Isolation → List Node → Port → Bool
is_needed I reached b = list_any (is_controlled I) (part_behind I reached (filter (λ q. not (same_port q b)) (border_ports I reached)))

-- the needed ports, rising
abbrev pub needed_ports : Isolation → List Node → List Port
needed_ports I reached = filter (is_needed I reached) (border_ports I reached)

-- the part that they cut off
abbrev pub part_nodes : Isolation → List Node → List Node
part_nodes I reached = part_behind I reached (needed_ports I reached)
