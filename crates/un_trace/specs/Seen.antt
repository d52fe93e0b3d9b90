-- Nodes with their entries, as a result is told of them.
pub use Rattle.un_walk.specs.Seen.{node_of, spot_of, nodes_of, HaveEntries}
use Rattle.std.specs.Prelude.{ℕ, ◌==◌, Bool, not, ◌||◌, List, filter, filter_map, slice_get, Option}
use Rattle.un_defs.specs.declared.star.Spot.{Spot}
use Rattle.un_defs.specs.declared.walk.Barriers.{Barriers}
use Rattle.un_walk.specs.declared.seen.Seen.{Seen}
use Rattle.un_walk.specs.Seen.{is_barrier_by}

-- the node is in the result: it is no barrier, or barriers are asked for
abbrev pub is_in_result : Barriers → Bool → Seen → Bool
is_in_result B with_barriers s = with_barriers || not (is_barrier_by B s)

-- those that are in the result
abbrev pub in_result : Barriers → Bool → List Seen → List Seen
in_result B with_barriers seen = filter (is_in_result B with_barriers) seen

-- the entries of those that have one
abbrev pub spots_of : List Seen → List Spot
spots_of seen = filter_map spot_of seen

-- those of a feature
abbrev pub of_feature : List Seen → ℕ → List Seen
of_feature seen id = filter (λ s. s.node.port.feature == id) seen

-- the first entry of a feature
abbrev pub first_spot : List Seen → ℕ → Option Spot
first_spot seen id = slice_get (spots_of (of_feature seen id)) 0
