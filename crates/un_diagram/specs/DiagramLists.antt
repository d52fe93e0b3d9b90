-- The diagram of the nodes that walks reach, as lists.
use Rattle.std.specs.Prelude.{Bool, ◌&&◌, List, [], ◌∷◌, ◌++◌, map, filter, flat_map, length}
use Rattle.std.specs.List.{list_any, list_all}
use Rattle.std.specs.Ordering.{is_lt, is_le}
use Rattle.un_defs.specs.declared.port.Port.{Port}
use Rattle.un_defs.specs.declared.port.Node.{Node}
use Rattle.un_defs.specs.declared.walk.Mode.TheVariants.{Any}
use Rattle.un_defs.specs.Orders.{rising, port_cmp, same_node}
use Rattle.un_defs.specs.Ground.{Ground}
use Rattle.un_defs.specs.Reach.{leads}
use Rattle.un_walk.specs.Spread.{reached_in}
use Rattle.un_ask.specs.declared.results.Piece.{Piece}
use Rattle.un_ask.specs.declared.results.Edge.{Edge}
use Rattle.un_ask.specs.declared.typed.DiagramAsk.{DiagramAsk}
use Rattle.un_diagram.specs.Diagram.{is_kept, is_collapsed, passes, features_of, edge_cmp, Diagram}

abbrev pub has_node : List Node → Node → Bool
has_node nodes n = list_any (same_node n) nodes

abbrev pub ports_of : List Node → List Port
ports_of nodes = map (λ n. n.port) nodes

-- a walk goes from one collapsed node to another, both among the reached ones
abbrev pub passes_among : Ground → DiagramAsk → List Node → Node → Node → Bool
passes_among G ask reached n m = (has_node reached n && has_node reached m) && passes G ask n m

-- the nodes of the piece that has this collapsed node
abbrev pub piece_nodes : Ground → DiagramAsk → List Node → Node → List Node
piece_nodes G ask reached n = reached_in (passes_among G ask reached) reached (n ∷ [])

-- the node is collapsed, and no node of its piece has a lesser port
abbrev pub is_least : Ground → DiagramAsk → List Node → Node → Bool
is_least G ask reached n = is_collapsed G ask n && list_all (λ m. is_le (port_cmp n.port m.port)) (piece_nodes G ask reached n)

-- the piece of the least of its nodes
abbrev pub piece_of : Ground → DiagramAsk → List Node → Node → Piece
piece_of G ask reached n = record {
  name = n.port;
  nodes = length (piece_nodes G ask reached n);
  features = length (features_of (piece_nodes G ask reached n));
}

abbrev pub kept_nodes : Ground → DiagramAsk → List Node → List Node
kept_nodes G ask reached = filter (is_kept G ask) reached

-- the least node of each piece
abbrev pub least_nodes : Ground → DiagramAsk → List Node → List Node
least_nodes G ask reached = filter (is_least G ask reached) reached

-- a step leads from the one kept node to the other, which has the greater port
abbrev pub joins_kept : Ground → DiagramAsk → Node → Node → Bool
joins_kept G ask n m = leads G ask.barriers Any n m && is_lt (port_cmp n.port m.port)

-- a step leads from the kept node into the piece of this least node
abbrev pub joins_piece : Ground → DiagramAsk → List Node → Node → Node → Bool
joins_piece G ask reached n m = list_any (leads G ask.barriers Any n) (piece_nodes G ask reached m)

-- the ports to which edges go from a kept node
abbrev pub joined_ports : Ground → DiagramAsk → List Node → Node → List Port
joined_ports G ask reached n =
    ports_of (filter (joins_kept G ask n) (kept_nodes G ask reached) ++ filter (joins_piece G ask reached n) (least_nodes G ask reached))

-- the edges from a kept node
abbrev pub edges_from : Ground → DiagramAsk → List Node → Node → List Edge
edges_from G ask reached n = map (λ q. record { from = n.port; to = q }) (joined_ports G ask reached n)

abbrev pub kept_ports : Ground → DiagramAsk → List Node → List Port
kept_ports G ask reached = ports_of (kept_nodes G ask reached)

abbrev pub pieces : Ground → DiagramAsk → List Node → List Piece
pieces G ask reached = map (piece_of G ask reached) (least_nodes G ask reached)

abbrev pub edges : Ground → DiagramAsk → List Node → List Edge
edges G ask reached = rising edge_cmp (flat_map (edges_from G ask reached) (kept_nodes G ask reached))

-- the diagram of the reached nodes
abbrev pub diagram_of : Ground → DiagramAsk → List Node → Diagram
diagram_of G ask reached = record { kept = kept_ports G ask reached; pieces = pieces G ask reached; edges = edges G ask reached }
