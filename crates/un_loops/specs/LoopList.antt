-- The loop segments among nodes, as a list.
use Rattle.std.specs.Prelude.{Bool, ◌&&◌, List, [], ◌∷◌, filter, filter_map, flat_map, Option, Some, None}
use Rattle.std.specs.List.{list_any}
use Rattle.un_defs.specs.declared.port.Node.{Node}
use Rattle.un_defs.specs.declared.link.LinkName.{LinkName}
use Rattle.un_defs.specs.declared.link.LinkName.TheVariants.{Seg, Path, Coin, Assoc}
use Rattle.un_defs.specs.declared.link.Tie.{Tie}
use Rattle.un_defs.specs.declared.walk.Barriers.{Barriers}
use Rattle.un_defs.specs.Orders.{rising, same_node}
use Rattle.un_defs.specs.Ground.{Ground, ties}
use Rattle.un_defs.specs.Reach.{is_open}
use Rattle.un_ask.specs.declared.results.Segment.{Segment}
use Rattle.un_walk.specs.Spread.{reached_in}
use Rattle.un_loops.specs.Loops.{segment_cmp, is_named, leads_beside}

abbrev pub has_node : List Node → Node → Bool
has_node nodes n = list_any (same_node n) nodes

-- one of the nodes, and open
abbrev pub is_open_among : Ground → Barriers → List Node → Node → Bool
is_open_among G B nodes n = has_node nodes n && is_open G B n

-- a step from one of the nodes to another, without the segment
abbrev pub steps_beside : Ground → Barriers → List Node → Segment → Node → Node → Bool
steps_beside G B nodes s n m = (has_node nodes n && has_node nodes m) && leads_beside G B s n m

-- the nodes that such steps reach from one node
abbrev pub reached_beside : Ground → Barriers → List Node → Segment → Node → List Node
reached_beside G B nodes s n = reached_in (steps_beside G B nodes s) nodes (n ∷ [])

-- the link is the segment, both its ends are among the nodes and open, and one is reached from the other without it
abbrev pub closes_loop : Ground → Barriers → List Node → Segment → Node → Tie → Bool
closes_loop G B nodes s n t =
    (is_named s t.name && (is_open_among G B nodes n && is_open_among G B nodes t.to)) && has_node (reached_beside G B nodes s n) t.to

-- some link of one of the nodes does
abbrev pub is_loop_segment : Ground → Barriers → List Node → Segment → Bool
is_loop_segment G B nodes s = list_any (λ n. list_any (closes_loop G B nodes s n) (ties G n)) nodes

-- the segment that a link is
abbrev pub segment_of : LinkName → Option Segment
segment_of (Seg line index) = Some (record { line = line; index = index })
segment_of (Path device low high) = None
segment_of (Coin junction terminal line vertex) = None
segment_of (Assoc id) = None

abbrev pub segments_at : Ground → Node → List Segment
segments_at G n = filter_map (λ t. segment_of t.name) (ties G n)

-- of the segments that are links of the nodes, those on a loop, rising
abbrev pub loop_segments : Ground → Barriers → List Node → List Segment
loop_segments G B nodes = rising segment_cmp (filter (is_loop_segment G B nodes) (flat_map (segments_at G) nodes))
