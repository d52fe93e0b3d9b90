-- Nodes with the entries that were looked up for them.
use Rattle.std.specs.Prelude.{◌≡◌, Bool, false, ◌||◌, List, map, Option}
use Rattle.std.specs.List.{list_any}
use Rattle.std.specs.Option.{option_copied, option_map_or}
use Rattle.un_defs.specs.declared.port.Node.{Node}
use Rattle.un_defs.specs.declared.star.Spot.{Spot}
use Rattle.un_defs.specs.declared.walk.Barriers.{Barriers}
use Rattle.un_defs.specs.Orders.{same_port}
use Rattle.un_defs.specs.Ground.{Ground, entry}
use Rattle.un_defs.specs.Reach.{meets_condition}
use Rattle.un_walk.specs.declared.seen.Seen.{Seen}

abbrev pub node_of : Seen → Node
node_of s = s.node

abbrev pub spot_of : Seen → Option Spot
spot_of s = option_copied s.spot

-- the nodes
abbrev pub nodes_of : List Seen → List Node
nodes_of seen = map node_of seen

-- each node has its entry, if the ground has one
abbrev pub HaveEntries : Ground → List Seen → Type 0
HaveEntries G seen = map spot_of seen ≡ map (entry G) (nodes_of seen)

-- the node is a barrier, by the entry that was looked up for it
abbrev pub is_barrier_by : Barriers → Seen → Bool
is_barrier_by B s = option_map_or (meets_condition B) (spot_of s) false || list_any (same_port s.node.port) B.stops
