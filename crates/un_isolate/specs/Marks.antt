-- Marks on nodes, and the nodes that are marked.
use Rattle.std.specs.Prelude.{Bool, ◌&&◌, List, map, Option, Some, None, if◌then◌else◌}
use Rattle.std.specs.List.{filter_map, zip}
use Rattle.un_defs.specs.declared.port.Node.{Node}

-- a mark where both lists have one
abbrev pub both_marks : List Bool → List Bool → List Bool
both_marks a b = map (λ p. p.0 && p.1) (zip a b)

abbrev pub node_if : Node → Bool → Option Node
node_if n mark = if mark then Some n else None

-- the nodes that are marked
abbrev pub marked_nodes : List Node → List Bool → List Node
marked_nodes nodes marks = filter_map (λ p. node_if p.0 p.1) (zip nodes marks)
