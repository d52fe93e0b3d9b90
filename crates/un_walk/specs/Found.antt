-- What a walk has found over a ground: nodes, by marks on the entries of stars.
use Rattle.std.specs.Prelude.{◌≡◌, ℕ, zero, suc, ◌+◌, ◌<◌, ◌≤◌, false, List, [], ◌∷◌, ◌++◌, map, length, get_or, slice_get, find, All, IsSome, Some, None, if◌then◌else◌}
use Rattle.std.specs.List.{IsDistinct, list_any, position_or_len}
use Rattle.std.specs.Option.{option_map_or}
use Rattle.un_geom.specs.declared.point.Point.{Point}
use Rattle.un_geom.specs.Places.{same_point}
use Rattle.un_defs.specs.declared.port.Port.{Port}
use Rattle.un_defs.specs.declared.port.Node.{Node}
use Rattle.un_defs.specs.declared.star.Star.{Star}
use Rattle.un_defs.specs.Orders.{same_port, same_node}
use Rattle.un_defs.specs.Ground.{Ground, entry}
use Rattle.un_walk.specs.declared.seen.Seen.{Seen}
use Rattle.un_walk.specs.declared.item.Item.{Item}
use Rattle.un_walk.specs.declared.found.Found.{Found}
use Rattle.un_walk.specs.Growth.{has_node}
use Rattle.un_walk.specs.Seen.{spot_of, nodes_of, HaveEntries}
use Rattle.un_walk.specs.Site.{star_of, IsSite}
use Rattle.un_walk.specs.Visits.{Visited, count_of, IsUnmarked}

-- the place of the point among these, or how many there are
abbrev pub number_of : List Point → Point → ℕ
number_of ps p = position_or_len (same_point p) ps

-- the point is among these, and this is its number
abbrev pub IsNumberOf : List Point → Point → ℕ → Type 0
IsNumberOf ps p number = (number ≡ number_of ps p) × (number < length ps)

-- the point is not among these
abbrev pub IsWithoutNumber : List Point → Point → Type 0
IsWithoutNumber ps p = length ps ≤ number_of ps p

-- the points with the point at their end, unless it is there already
abbrev pub with_point : List Point → Point → List Point
with_point ps p = if list_any (same_point p) ps then ps else ps ++ p ∷ []

-- the place of the first entry of the port, or how many entries there are
abbrev pub place_in : Star → Port → ℕ
place_in star q = position_or_len (λ s. same_port s.port q) star.spots

-- there is an entry of the port, and the first has this place
abbrev pub IsPlaceIn : Star → Port → ℕ → Type 0
IsPlaceIn star q place = (place ≡ place_in star q) × (place < length star.spots)

-- the mark of the port's entry, 0 where there is none
abbrev pub mark_of : Port → Visited → ℕ
mark_of q v = get_or v.marks (place_in (star_of v.site) q) 0

-- the mark of the node's entry at its point, 0 where there is none
abbrev pub mark_at : List Visited → Node → ℕ
mark_at vs n = option_map_or (mark_of n.port) (find (λ v. same_point n.at v.site.at) vs) 0

-- the mark is 0 where the list has not the node, and else its place and 1
abbrev pub IsMark : List Node → Node → ℕ → Type 0
IsMark ns n zero = has_node ns n ≡ false
IsMark ns n (suc k) = slice_get ns k ≡ Some n

-- what was seen, and its nodes
abbrev pub seens_of : List Item → List Seen
seens_of items = map (λ i. i.seen) items

abbrev pub seens : Found → List Seen
seens f = seens_of f.items.items

abbrev pub nodes : Found → List Node
nodes f = nodes_of (seens f)

-- what the ground has at the point, with no mark
pub record IsUnmarkedAt (G : Ground) (p : Point) (v : Visited) : Type 0 where
  pub at : v.site.at ≡ p
  pub site : IsSite G v.site
  pub unmarked : IsUnmarked v

-- an item to come: a node with its entry, the number of its point and the place that it was found from
pub record IsItemOver (G : Ground) (f : Found) (i : Item) : Type 0 where
  pub number : IsNumberOf f.points i.seen.node.at i.number
  pub entry : spot_of i.seen ≡ entry G i.seen.node
  pub from : i.from < length f.items.items + 1

-- the nodes are distinct, each with its entry and the number of its point; of the nodes with an entry exactly these are marked, with their
-- places, and of the others exactly these are strays
pub record IsFoundOver (G : Ground) (f : Found) : Type 0 where
  pub points : f.points ≡ map (λ v. v.site.at) f.visited
  pub sites : All (λ v. IsSite G v.site) f.visited
  pub counts : All (λ v. length v.marks ≡ count_of v.site) f.visited
  pub numbers : All (λ i. IsNumberOf f.points i.seen.node.at i.number) f.items.items
  pub origins : All (λ i. i.from < length f.items.items) f.items.items
  pub entries : HaveEntries G (seens f)
  pub distinct : IsDistinct same_node (nodes f)
  pub marked : (n : Node) → IsSome (entry G n) → IsMark (nodes f) n (mark_at f.visited n)
  pub strays : (n : Node) → entry G n ≡ None → has_node f.strays n ≡ has_node (nodes f) n
