-- What the entries of reached nodes tell.
use Rattle.std.specs.Prelude.{◌≡◌, ℕ, ◌==◌, Bool, true, false, not, ◌&&◌, ◌||◌, List, [], map, slice_get, Option, Some}
use Rattle.std.specs.List.{list_any}
use Rattle.std.specs.Option.{option_map_or}
use Rattle.un_conds.specs.Conditions.{Condition}
use Rattle.un_defs.specs.declared.port.Node.{Node}
use Rattle.un_defs.specs.declared.link.LinkName.{LinkName}
use Rattle.un_defs.specs.declared.link.Tie.{Tie}
use Rattle.un_defs.specs.declared.star.Spot.{Spot}
use Rattle.un_defs.specs.declared.walk.Barriers.{Barriers}
use Rattle.un_defs.specs.Orders.{same_node}
use Rattle.un_defs.specs.Ground.{Ground, entry}
use Rattle.un_defs.specs.Reach.{is_path}
use Rattle.un_walk.specs.declared.seen.Seen.{Seen}
pub use Rattle.un_walk.specs.Seen.{spot_of, nodes_of, is_barrier_by}
use Rattle.un_isolate.specs.Isolation.{isolates}

-- the nodes, and their entries
pub record AreSeen (G : Ground) (reached : List Node) (seen : List Seen) : Type 0 where
  pub nodes : nodes_of seen ≡ reached
  pub entries : map spot_of seen ≡ map (entry G) reached

-- the entry has a controller of the tier
abbrev pub has_controller : ℕ → Spot → Bool
has_controller tier s = option_map_or (λ c. c.tier == tier) s.controller false

-- ---- what the entries tell

abbrev pub isolates_by : Option (Condition ℕ) → Seen → Bool
isolates_by isolators v = option_map_or (isolates isolators) (spot_of v) false

abbrev pub controls_by : ℕ → Seen → Bool
controls_by tier v = option_map_or (has_controller tier) (spot_of v) false

-- a controller of the tier, if there is a tier
abbrev pub is_controlled_by : Option ℕ → Seen → Bool
is_controlled_by tier v = option_map_or (λ t. controls_by t v) tier false

abbrev pub ties_by : Seen → List Tie
ties_by v = option_map_or (λ s. s.ties) (spot_of v) []

-- in a walk with a tier, a path is shut where either end has a controller of that tier
abbrev pub is_shut_by : Option ℕ → LinkName → Seen → Seen → Bool
is_shut_by tier name v w = is_path name && option_map_or (λ t. controls_by t v || controls_by t w) tier false

-- a walk goes by this link from one to the other
abbrev pub goes_to : Option ℕ → Seen → Seen → Tie → Bool
goes_to tier v w t = same_node t.to w.node && not (is_shut_by tier t.name v w)

-- a walk goes from one to the other
abbrev pub leads_to : Barriers → Seen → Seen → Bool
leads_to B v w = not (is_barrier_by B v) && list_any (goes_to B.tier v w) (ties_by v)

-- the node stands at the place
abbrev pub IsPlaceOf : List Seen → Node → ℕ → Type 0
IsPlaceOf seen n p = (v : Seen) × (slice_get seen p ≡ Some v) × (v.node ≡ n)

-- a walk goes by the link to the node at the place
abbrev pub IsEndOf : Option ℕ → List Seen → Seen → Tie → ℕ → Type 0
IsEndOf tier seen v t p = (w : Seen) × (slice_get seen p ≡ Some w) × (goes_to tier v w t ≡ true)

-- a walk goes to the node at the place
abbrev pub IsNextOf : Barriers → List Seen → Seen → ℕ → Type 0
IsNextOf B seen v p = (w : Seen) × (slice_get seen p ≡ Some w) × (leads_to B v w ≡ true)

-- a walk goes from the node at the first place to the node at the second
abbrev pub IsStep : Barriers → List Seen → ℕ → ℕ → Type 0
IsStep B seen i j = (v : Seen) × (slice_get seen i ≡ Some v) × IsNextOf B seen v j
