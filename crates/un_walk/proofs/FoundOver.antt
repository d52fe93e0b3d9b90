-- What a walk has found, with one point more and with one node more.
use Rattle.std.proofs.Common.{add-one, ◌≡◌, ◌⊎◌, ℕ, zero, suc, ◌+◌, ◌<◌, ◌≤◌, Bool, true, false, cond, ◌||◌, List, [], ◌∷◌, ◌++◌, map, length, get_or, set, slice_get, All, IsSome, Option, Some, None, refl, sym, ap, subst, ◌∙◌, length-append, inl, inr, rules, arith}
use Rattle.std.specs.List.{IsDistinct, position_or_len}
use Rattle.std.specs.Option.{option_map}
use Rattle.std.proofs.Math.Seq.{map-set_same}
use Rattle.std.proofs.lemmas.List.{length-map, length-set}
use Rattle.std.proofs.lemmas.List.Elements.{All-nil, All-cons, All-head, All-tail, All-append, All-get_or, All-set}
use Rattle.std.proofs.lemmas.List.Folds.{find_at}
use Rattle.std.proofs.lemmas.Map.Keys.{IsDistinct-push}
use Rattle.std.proofs.lemmas.Option.{get_or_from_slice_get, slice_get-get_or, slice_get_past}
use Rattle.un_geom.specs.declared.point.Point.{Point}
use Rattle.un_geom.specs.Places.{same_point}
use Rattle.un_defs.specs.declared.port.Node.{Node}
use Rattle.un_defs.specs.declared.star.Spot.{Spot}
use Rattle.un_defs.specs.declared.star.Star.{Star}
use Rattle.un_defs.specs.Orders.{same_port, same_node}
use Rattle.un_defs.specs.Ground.{Ground, entry}
use Rattle.un_defs.proofs.Rising.{Among}
use Rattle.un_defs.proofs.ListLemmas.{map-append}
use Rattle.un_defs.proofs.Members.{among_from_list_any, among_from-map, among-map, among_from_contains, list_any_from_among}
use Rattle.un_defs.proofs.Unique.{node_same, node_itself, point_same}
use Rattle.un_walk.specs.declared.item.Item.{Item}
use Rattle.un_walk.specs.declared.found.Found.{Found}
use Rattle.un_walk.specs.Growth.{has_node, with_node}
use Rattle.un_walk.specs.Seen.{node_of, spot_of, HaveEntries}
use Rattle.un_walk.specs.Site.{star_of, IsSite}
use Rattle.un_walk.specs.Visits.{Visited, IsInside, IsPlaceAt, IsMarkedAt, WasMarkedAt}
use Rattle.un_walk.specs.Found.{number_of, IsNumberOf, IsWithoutNumber, with_point, place_in, IsPlaceIn, mark_at, IsMark, seens, nodes, IsUnmarkedAt, IsItemOver, IsFoundOver}
use Rattle.un_walk.proofs.Entered.{each_entry, nodes_end, entries_end}
use Rattle.un_walk.proofs.Growing.{contains_at}
use Rattle.un_walk.proofs.Marking.{first_passes, position_some, position_none, position_map, any_last, point_new, number_stays, marked_more, marked_at, marked_set}
use Rattle.un_walk.proofs.Walked.{among_at}
use Rattle.un_walk.proofs.Once.{same_node_laws}

all_among : {X : Type 0} (P : X → Type 0) (xs : List X) (x : X) → All P xs → Among xs x → P x
all_among P [] x h a = absurd a
all_among P (y ∷ xs) x h a = elim a [
  | inl e ↦ subst P e (All-head P y xs h)
  | inr b ↦ all_among P xs x (All-tail P y xs h) b
]

all_each : {X : Type 0} (P Q : X → Type 0) → ((x : X) → P x → Q x) → (xs : List X) → All P xs → All Q xs
all_each P Q f [] h = All-nil Q
all_each P Q f (x ∷ xs) h = All-cons Q x xs (f x (All-head P x xs h)) (all_each P Q f xs (All-tail P x xs h))

all_one : {X : Type 0} (P : X → Type 0) (x : X) → P x → All P (x ∷ [])
all_one P x h = All-cons P x [] h (All-nil P)

abbrev no_entry : Option Spot
no_entry = None

pub no_spot : IsSome no_entry → ⊥
no_spot h = search rules

-- the nodes of items
abbrev item_node : Item → Node
item_node i = i.seen.node

seens_end : (items : List Item) (i : Item) → map (λ (x : Item). x.seen) (items ++ i ∷ []) ≡ map (λ (x : Item). x.seen) items ++ i.seen ∷ []
seens_end items i = map-append (λ (x : Item). x.seen) items (i ∷ [])

pub nodes_end_items : (items : List Item) (i : Item) → map node_of (map (λ (x : Item). x.seen) (items ++ i ∷ [])) ≡ map node_of (map (λ (x : Item). x.seen) items) ++ i.seen.node ∷ []
nodes_end_items items i = ap (map node_of) (seens_end items i) ∙ nodes_end (map (λ (x : Item). x.seen) items) i.seen

-- a node that stands at a place is found
pub has_at : (f : Found) (k : ℕ) (d : Item) (n : Node) → k < length f.items.items → (get_or f.items.items k d).seen.node ≡ n → has_node (nodes f) n ≡ true
has_at f k d n l e =
    let i : Item = get_or f.items.items k d in
    let among : Among (nodes f) i.seen.node = among-map node_of (seens f) i.seen (among-map (λ (x : Item). x.seen) f.items.items i (among_from_contains f.items.items i (contains_at f.items.items k d l))) in
    list_any_from_among (same_node n) (nodes f) n (subst (Among (nodes f)) e among) (node_itself n)

pub node_at : (items : List Item) (k : ℕ) (i : Item) → slice_get items k ≡ Some i → slice_get (map node_of (map (λ (x : Item). x.seen) items)) k ≡ Some i.seen.node
node_at [] k i e = cc
node_at (x ∷ items) zero i e = ap (option_map (λ (y : Item). y.seen.node)) e
node_at (x ∷ items) (suc k) i e = node_at items k i e

pub nodes_more : (f g : Found) (i : Item) → g.items.items ≡ f.items.items ++ i ∷ [] → nodes g ≡ nodes f ++ i.seen.node ∷ []
nodes_more f g i e = ap (λ l. map node_of (map (λ (x : Item). x.seen) l)) e ∙ nodes_end_items f.items.items i

pub count_nodes : (f : Found) → length (nodes f) ≡ length f.items.items
count_nodes f = length-map (seens f) node_of ∙ length-map f.items.items (λ (x : Item). x.seen)

-- one node more at the end
has_more : (ns : List Node) (n m : Node) → has_node (ns ++ n ∷ []) m ≡ (has_node ns m || same_node m n)
has_more ns n m = any_last (same_node m) ns n

pub with_old : (ns : List Node) (n : Node) → has_node ns n ≡ true → with_node ns n ≡ ns
with_old ns n e = ap (λ b. cond b ns (ns ++ n ∷ [])) e

pub with_new : (ns : List Node) (n : Node) → has_node ns n ≡ false → with_node ns n ≡ ns ++ n ∷ []
with_new ns n e = ap (λ b. cond b ns (ns ++ n ∷ [])) e

-- marks in a list with one node more
pub mark_more : (ns : List Node) (n m : Node) (mark : ℕ) → same_node m n ≡ false → IsMark ns m mark → IsMark (ns ++ n ∷ []) m mark
mark_more ns n m zero other h = has_more ns n m ∙ (λ i. h i || other i)
mark_more ns n m (suc k) other h = later ns k h
  where
    later : (ns : List Node) (k : ℕ) → slice_get ns k ≡ Some m → slice_get (ns ++ n ∷ []) k ≡ Some m
    later [] k e = cc
    later (x ∷ ns) zero e = e
    later (x ∷ ns) (suc k) e = later ns k e

pub mark_new : (ns : List Node) (n : Node) → IsMark (ns ++ n ∷ []) n (suc (length ns))
mark_new [] n = refl
mark_new (x ∷ ns) n = mark_new ns n

-- a marked node is in the list
pub mark_has : (ns : List Node) (n : Node) (k : ℕ) → IsMark ns n (k + 1) → has_node ns n ≡ true
mark_has ns n k h = list_any_from_among (same_node n) ns n (among_at ns k n (subst (IsMark ns n) (add-one k) h)) (node_itself n)

pub with_longer : (ns : List Node) (n : Node) → length ns ≤ length (with_node ns n)
with_longer ns n = go (has_node ns n)
  where
    go : (b : Bool) → length ns ≤ length (cond b ns (ns ++ n ∷ []))
    go true = omega arith
    go false = omega (arith, length-append ns (n ∷ []))

-- the same in the same lists
pub same_found : (G : Ground) (f g : Found) → IsFoundOver G f → g.points ≡ f.points → g.visited ≡ f.visited → g.strays ≡ f.strays → g.items.items ≡ f.items.items → IsFoundOver G g
same_found G f g is points visited strays items = record {
  points = points ∙ is.points ∙ ap (map (λ (x : Visited). x.site.at)) (sym visited);
  sites = subst (All (λ (x : Visited). IsSite G x.site)) (sym visited) is.sites;
  counts = subst (All (λ (x : Visited). length x.marks ≡ length (star_of x.site).spots)) (sym visited) is.counts;
  numbers = subst (λ l. All (λ (i : Item). IsNumberOf g.points i.seen.node.at i.number) l) (sym items)
      (subst (λ ps. All (λ (i : Item). IsNumberOf ps i.seen.node.at i.number) f.items.items) (sym points) is.numbers);
  origins = subst (λ l. All (λ (i : Item). i.from < length l) l) (sym items) is.origins;
  entries = subst (λ l. HaveEntries G (map (λ (x : Item). x.seen) l)) (sym items) is.entries;
  distinct = subst (λ l. IsDistinct same_node (map node_of (map (λ (x : Item). x.seen) l))) (sym items) is.distinct;
  marked = λ n h. subst (λ l. IsMark (map node_of (map (λ (x : Item). x.seen) l)) n (mark_at g.visited n)) (sym items)
      (subst (λ l. IsMark (nodes f) n (mark_at l n)) (sym visited) (is.marked n h));
  strays = λ n h. ap (λ l. has_node l n) strays ∙ is.strays n h ∙ ap (λ l. has_node (map node_of (map (λ (x : Item). x.seen) l)) n) (sym items);
}

module _ (G : Ground) where
  -- the entry of a node is at the place of its port in the star at its point
  pub entry_at : (n : Node) (place : ℕ) → IsPlaceIn (G.stars n.at) n.port place → entry G n ≡ slice_get (G.stars n.at).spots place
  entry_at n place is = find_at (λ (s : Spot). same_port s.port n.port) (G.stars n.at).spots ∙ ap (slice_get (G.stars n.at).spots) (sym is.0)

  pub no_entry_at : (n : Node) → length (G.stars n.at).spots ≤ place_in (G.stars n.at) n.port → entry G n ≡ None
  no_entry_at n l = find_at (λ (s : Spot). same_port s.port n.port) (G.stars n.at).spots ∙ slice_get_past (G.stars n.at).spots (place_in (G.stars n.at) n.port) l

  module _ (f : Found) (is : IsFoundOver G f) where
    -- what holds of the item at a place
    pub item_number : (k : ℕ) (i : Item) → k < length f.items.items → i ≡ get_or f.items.items k i → IsNumberOf f.points i.seen.node.at i.number
    item_number k i l e = subst (λ (x : Item). IsNumberOf f.points x.seen.node.at x.number) (sym e)
        (All-get_or (λ (x : Item). IsNumberOf f.points x.seen.node.at x.number) f.items.items k i l is.numbers)

    pub item_entry : (k : ℕ) (i : Item) → k < length f.items.items → i ≡ get_or f.items.items k i → spot_of i.seen ≡ entry G i.seen.node
    item_entry k i l e = each_entry G (seens f) is.entries i.seen
        (among-map (λ (x : Item). x.seen) f.items.items i (subst (Among f.items.items) (sym e) (among_from_contains f.items.items (get_or f.items.items k i) (contains_at f.items.items k i l))))

    -- where a point has no number, no node at it was found
    pub not_found : (n : Node) → IsWithoutNumber f.points n.at → has_node (nodes f) n ≡ false
    not_found n l = go (has_node (nodes f) n) refl
      where
        go : (b : Bool) → has_node (nodes f) n ≡ b → b ≡ false
        go false e = refl
        go true e =
            let r = among_from_list_any (same_node n) (nodes f) e in
            let s = among_from-map node_of (seens f) r.0 r.1 in
            let i = among_from-map (λ (x : Item). x.seen) f.items.items s.0 s.1 in
            let number : IsNumberOf f.points (i.0).seen.node.at (i.0).number = all_among (λ (x : Item). IsNumberOf f.points x.seen.node.at x.number) f.items.items i.0 is.numbers i.1 in
            let same : (i.0).seen.node ≡ n = ap node_of i.2 ∙ s.2 ∙ sym (node_same n r.0 r.2) in
            absurd (omega (arith, l, number.0, number.1, ap (λ (m : Node). number_of f.points m.at) same))

    -- the number of a point is the place of what was visited there
    pub visited_at : (p : Point) (number : ℕ) → IsNumberOf f.points p number → number ≡ position_or_len (λ (v : Visited). same_point p v.site.at) f.visited
    visited_at p number h = h.0 ∙ ap (position_or_len (same_point p)) is.points ∙ position_map (λ (v : Visited). v.site.at) (same_point p) f.visited

    pub visited_within : (p : Point) (number : ℕ) → IsNumberOf f.points p number → number < length f.visited
    visited_within p number h = omega (arith, h.1, ap length is.points, length-map f.visited (λ (v : Visited). v.site.at))

    -- a star is looked up for a node that is the first at its point
    pub add_counts : (n : Node) (before after : ℕ) → (after ≡ before) ⊎ ((after ≤ before + 1) × IsWithoutNumber f.points n.at) → after + length (nodes f) ≤ before + length (with_node (nodes f) n)
    add_counts n before after once = elim once [
      | inl e ↦ omega (arith, e, with_longer (nodes f) n)
      | inr l ↦ omega (arith, l.0, ap length (with_new (nodes f) n (not_found n l.1)), length-append (nodes f) (n ∷ []))
    ]

    -- one point more, at which nothing is marked
    pub point_more : (p : Point) (v : Visited) → IsUnmarkedAt G p v → IsWithoutNumber f.points p → (g : Found) → g.points ≡ with_point f.points p → g.visited ≡ f.visited ++ v ∷ []
        → g.strays ≡ f.strays → g.items ≡ f.items → IsFoundOver G g
    point_more p v unmarked new g points visited strays items = record {
      points = points ∙ point_new f.points p new ∙ ap (λ l. l ++ p ∷ []) is.points ∙ ap (λ q. map (λ (x : Visited). x.site.at) f.visited ++ q ∷ []) (sym unmarked.at)
          ∙ sym (map-append (λ (x : Visited). x.site.at) f.visited (v ∷ [])) ∙ ap (map (λ (x : Visited). x.site.at)) (sym visited);
      sites = subst (All (λ (x : Visited). IsSite G x.site)) (sym visited) (All-append (λ (x : Visited). IsSite G x.site) f.visited (v ∷ []) is.sites (all_one (λ (x : Visited). IsSite G x.site) v unmarked.site));
      counts = subst (All (λ (x : Visited). length x.marks ≡ length (star_of x.site).spots)) (sym visited)
          (All-append (λ (x : Visited). length x.marks ≡ length (star_of x.site).spots) f.visited (v ∷ []) is.counts (all_one (λ (x : Visited). length x.marks ≡ length (star_of x.site).spots) v unmarked.unmarked.count));
      numbers = subst (λ l. All (λ (i : Item). IsNumberOf g.points i.seen.node.at i.number) l.items) (sym items)
          (all_each (λ (i : Item). IsNumberOf f.points i.seen.node.at i.number) (λ (i : Item). IsNumberOf g.points i.seen.node.at i.number)
          (λ i h. subst (λ l. IsNumberOf l i.seen.node.at i.number) (sym (points ∙ point_new f.points p new)) (number_stays f.points i.seen.node.at p i.number h)) f.items.items is.numbers);
      origins = subst (λ l. All (λ (i : Item). i.from < length l.items) l.items) (sym items) is.origins;
      entries = subst (λ l. HaveEntries G (map (λ (x : Item). x.seen) l.items)) (sym items) is.entries;
      distinct = subst (λ l. IsDistinct same_node (map node_of (map (λ (x : Item). x.seen) l.items))) (sym items) is.distinct;
      marked = λ n h. subst (λ l. IsMark (map node_of (map (λ (x : Item). x.seen) l.items)) n (mark_at g.visited n)) (sym items)
          (subst (IsMark (nodes f) n) (sym (ap (λ l. mark_at l n) visited ∙ marked_more f.visited v unmarked.unmarked.none n)) (is.marked n h));
      strays = λ n h. ap (λ l. has_node l n) strays ∙ is.strays n h ∙ ap (λ l. has_node (map node_of (map (λ (x : Item). x.seen) l.items)) n) (sym items);
    }

    -- the point of what was visited
    pub site_at : (n : Node) (number : ℕ) (v : Visited) → IsNumberOf f.points n.at number → slice_get f.visited number ≡ Some v → v.site.at ≡ n.at
    site_at n number v h at =
        let r = first_passes (λ (x : Visited). same_point n.at x.site.at) f.visited (subst (λ k. k < length f.visited) (visited_at n.at number h) (visited_within n.at number h)) in
        let one : Some v ≡ Some r.0 = sym at ∙ ap (slice_get f.visited) (visited_at n.at number h) ∙ r.1 in
        ap (λ (x : Visited). x.site.at) (one_of one) ∙ sym (point_same n.at (r.0).site.at r.2)
      where
        one_of : {x y : Visited} → Some x ≡ Some y → x ≡ y
        one_of e = cc

    -- a star that has a place for the port has the entry
    has_entry : (n : Node) (place : ℕ) → IsPlaceIn (G.stars n.at) n.port place → IsSome (entry G n)
    has_entry n place is_place =
        let d : Spot = (first_passes (λ (s : Spot). same_port s.port n.port) (G.stars n.at).spots (subst (λ k. k < length (G.stars n.at).spots) is_place.0 is_place.1)).0 in
        subst IsSome (sym (entry_at n place is_place ∙ slice_get-get_or (G.stars n.at).spots place d is_place.1)) (some_is d)
      where
        some_is : (s : Spot) → IsSome (Some s)
        some_is s = search rules

    -- the star of what was visited
    pub star_here : (n : Node) (number : ℕ) (v : Visited) → IsNumberOf f.points n.at number → slice_get f.visited number ≡ Some v → star_of v.site ≡ G.stars n.at
    star_here n number v h at =
        let mine : get_or f.visited number v ≡ v = get_or_from_slice_get f.visited number v v at in
        let site : IsSite G v.site = subst (λ (x : Visited). IsSite G x.site) mine (All-get_or (λ (x : Visited). IsSite G x.site) f.visited number v (visited_within n.at number h) is.sites) in
        site.star ∙ ap G.stars (site_at n number v h at)

    -- the mark of a node with an entry, which stands at the place of the star with the number
    pub marked_here : (n : Node) (number place : ℕ) (v : Visited) → IsNumberOf f.points n.at number → IsPlaceIn (G.stars n.at) n.port place → slice_get f.visited number ≡ Some v
        → (star_of v.site ≡ G.stars n.at) × IsMark (nodes f) n (get_or v.marks place 0) × (length v.marks ≡ length (star_of v.site).spots)
    marked_here n number place v h is_place at =
        let within : number < length f.visited = visited_within n.at number h in
        let mine : get_or f.visited number v ≡ v = get_or_from_slice_get f.visited number v v at in
        let count : length v.marks ≡ length (star_of v.site).spots = subst (λ (x : Visited). length x.marks ≡ length (star_of x.site).spots) mine (All-get_or (λ (x : Visited). length x.marks ≡ length (star_of x.site).spots) f.visited number v within is.counts) in
        let star : star_of v.site ≡ G.stars n.at = star_here n number v h at in
        let some : IsSome (entry G n) = has_entry n place is_place in (
          star,
          subst (IsMark (nodes f) n) (marked_at f.visited n v (ap (slice_get f.visited) (sym (visited_at n.at number h)) ∙ at)
              ∙ ap (λ i. get_or v.marks i 0) (ap (λ s. place_in s n.port) star ∙ sym is_place.0)) (is.marked n some),
          count,
        )

    -- the place of a port among the entries at a point with a number is that in the star there
    pub placed_in : (n : Node) (number place : ℕ) → IsNumberOf f.points n.at number → IsPlaceAt f.visited number n.port (Some place) → IsPlaceIn (G.stars n.at) n.port place
    placed_in n number place h there = subst (λ s. IsPlaceIn s n.port place) (star_here n number there.0 h there.1)
        (position_some (λ (s : Spot). same_port s.port n.port) (star_of (there.0).site).spots place (sym there.2))

    pub not_placed : (n : Node) (number : ℕ) → IsNumberOf f.points n.at number → IsPlaceAt f.visited number n.port None → entry G n ≡ None
    not_placed n number h there = no_entry_at n (subst (λ (s : Star). length s.spots ≤ place_in s n.port) (star_here n number there.0 h there.1)
        (position_none (λ (s : Spot). same_port s.port n.port) (star_of (there.0).site).spots (sym there.2)))

    or_false : (b : Bool) → (b || false) ≡ b
    or_false true = refl
    or_false false = refl

    unlike : (n m : Node) (place : ℕ) → IsPlaceIn (G.stars n.at) n.port place → entry G m ≡ None → same_node m n ≡ false
    unlike n m place is_place none = go (same_node m n) refl
      where
        go : (b : Bool) → same_node m n ≡ b → b ≡ false
        go false e = refl
        go true e = absurd (nothing (subst (λ (k : Node). IsSome (entry G k)) (sym (node_same m n e)) (has_entry n place is_place)))
          where
            nothing : IsSome (entry G m) → ⊥
            nothing h = no_spot (subst IsSome none h)

    numbers_more : (i : Item) → IsItemOver G f i → (g : Found) → g.points ≡ f.points → g.items.items ≡ f.items.items ++ i ∷ [] → All (λ (x : Item). IsNumberOf g.points x.seen.node.at x.number) g.items.items
    numbers_more i item g points items =
        subst (λ ps. All (λ (x : Item). IsNumberOf ps x.seen.node.at x.number) g.items.items) (sym points)
        (subst (All (λ (x : Item). IsNumberOf f.points x.seen.node.at x.number)) (sym items)
        (All-append (λ (x : Item). IsNumberOf f.points x.seen.node.at x.number) f.items.items (i ∷ []) is.numbers (all_one (λ (x : Item). IsNumberOf f.points x.seen.node.at x.number) i item.number)))

    origins_more : (i : Item) → IsItemOver G f i → (g : Found) → g.items.items ≡ f.items.items ++ i ∷ [] → All (λ (x : Item). x.from < length g.items.items) g.items.items
    origins_more i item g items =
        let long : length g.items.items ≡ length f.items.items + 1 = ap length items ∙ length-append f.items.items (i ∷ []) in
        subst (λ k. All (λ (x : Item). x.from < k) g.items.items) (sym long)
        (subst (All (λ (x : Item). x.from < length f.items.items + 1)) (sym items)
        (All-append (λ (x : Item). x.from < length f.items.items + 1) f.items.items (i ∷ [])
        (all_each (λ (x : Item). x.from < length f.items.items) (λ (x : Item). x.from < length f.items.items + 1) (λ x h. omega (arith, h)) f.items.items is.origins)
        (all_one (λ (x : Item). x.from < length f.items.items + 1) i item.from)))

    entries_more : (i : Item) → IsItemOver G f i → (g : Found) → g.items.items ≡ f.items.items ++ i ∷ [] → HaveEntries G (seens g)
    entries_more i item g items =
        subst (HaveEntries G) (sym (ap (map (λ (x : Item). x.seen)) items ∙ seens_end f.items.items i)) (entries_end G (seens f) i.seen is.entries item.entry)

    -- there is a mark at the place of the star with the number
    pub marked_inside : (n : Node) (number place : ℕ) → IsNumberOf f.points n.at number → IsPlaceIn (G.stars n.at) n.port place → IsInside f.visited number place
    marked_inside n number place h is_place =
        let r = first_passes (λ (x : Visited). same_point n.at x.site.at) f.visited (subst (λ k. k < length f.visited) (visited_at n.at number h) (visited_within n.at number h)) in
        let at : slice_get f.visited number ≡ Some r.0 = ap (slice_get f.visited) (visited_at n.at number h) ∙ r.1 in
        let here = marked_here n number place r.0 h is_place at in
        (r.0, at, omega (arith, is_place.1, here.2, ap (λ s. length s.spots) here.0))

    -- a node whose mark was off is not found yet
    pub marked_new : (n : Node) (number place x : ℕ) → IsNumberOf f.points n.at number → IsPlaceIn (G.stars n.at) n.port place → (vs : List Visited) → IsMarkedAt f.visited vs number place x → has_node (nodes f) n ≡ false
    marked_new n number place x h is_place vs mark = subst (IsMark (nodes f) n) mark.off (marked_here n number place mark.before h is_place mark.at).1

    -- a node whose mark was on is found already
    pub marked_twice : (n : Node) (number place k : ℕ) → IsNumberOf f.points n.at number → IsPlaceIn (G.stars n.at) n.port place → WasMarkedAt f.visited number place (k + 1) → has_node (nodes f) n ≡ true
    marked_twice n number place k h is_place was = mark_has (nodes f) n k (subst (IsMark (nodes f) n) was.2 (marked_here n number place was.0 h is_place was.1).1)

    -- it stands where its mark tells
    pub marked_place : (n : Node) (number place k : ℕ) → IsNumberOf f.points n.at number → IsPlaceIn (G.stars n.at) n.port place → WasMarkedAt f.visited number place (k + 1) → slice_get (nodes f) k ≡ Some n
    marked_place n number place k h is_place was = subst (IsMark (nodes f) n) (was.2 ∙ add-one k) (marked_here n number place was.0 h is_place was.1).1

    -- the mark of a node once another one is found
    mark_after : (n : Node) (x : ℕ) → x ≡ length f.items.items + 1 → (m : Node) → IsSome (entry G m) → (b : Bool) → same_node m n ≡ b → IsMark (nodes f ++ n ∷ []) m (cond b x (mark_at f.visited m))
    mark_after n x last m h false e = mark_more (nodes f) n m (mark_at f.visited m) e (is.marked m h)
    mark_after n x last m h true e =
        subst (λ (k : Node). IsMark (nodes f ++ n ∷ []) k x) (sym (node_same m n e))
        (subst (IsMark (nodes f ++ n ∷ []) n) (sym (last ∙ ap (λ k. k + 1) (sym (count_nodes f)) ∙ add-one (length (nodes f)))) (mark_new (nodes f) n))

    -- one node more with an entry
    pub marked_node : (i : Item) (place : ℕ) → IsItemOver G f i → IsPlaceIn (G.stars i.seen.node.at) i.seen.node.port place → (vs : List Visited) (x : ℕ) → x ≡ length f.items.items + 1 → IsMarkedAt f.visited vs i.number place x
        → (g : Found) → g.points ≡ f.points → g.visited ≡ vs → g.strays ≡ f.strays → g.items.items ≡ f.items.items ++ i ∷ [] → IsFoundOver G g × (nodes g ≡ with_node (nodes f) i.seen.node)
    marked_node i place item is_place vs x last mark g points visited strays items =
        let n : Node = i.seen.node in
        let here = marked_here n i.number place mark.before item.number is_place mark.at in
        let new : has_node (nodes f) n ≡ false = subst (IsMark (nodes f) n) mark.off here.1 in
        let more : nodes g ≡ nodes f ++ n ∷ [] = nodes_more f g i items in
        let all : g.visited ≡ set f.visited i.number mark.after = visited ∙ mark.is in
        let within : i.number < length f.visited = visited_within n.at i.number item.number in
        let mine : get_or f.visited i.number mark.before ≡ mark.before = get_or_from_slice_get f.visited i.number mark.before mark.before mark.at in
        let count : length mark.after.marks ≡ length (star_of mark.after.site).spots =
        ap length mark.marks ∙ length-set mark.before.marks place x ∙ here.2 ∙ ap (λ s. length (star_of s).spots) (sym mark.site) in
        let site : IsSite G mark.before.site = subst (λ (x : Visited). IsSite G x.site) mine (All-get_or (λ (x : Visited). IsSite G x.site) f.visited i.number mark.before within is.sites) in (
          record {
            points = points ∙ is.points ∙ sym (map-set_same (λ (x : Visited). x.site.at) f.visited i.number mark.after mark.before (ap (λ s. s.at) mark.site ∙ ap (λ (x : Visited). x.site.at) (sym mine)))
                ∙ ap (map (λ (x : Visited). x.site.at)) (sym all);
            sites = subst (All (λ (x : Visited). IsSite G x.site)) (sym all) (All-set (λ (x : Visited). IsSite G x.site) f.visited i.number mark.after (subst (IsSite G) (sym mark.site) site) is.sites);
            counts = subst (All (λ (x : Visited). length x.marks ≡ length (star_of x.site).spots)) (sym all)
                (All-set (λ (x : Visited). length x.marks ≡ length (star_of x.site).spots) f.visited i.number mark.after count is.counts);
            numbers = numbers_more i item g points items;
            origins = origins_more i item g items;
            entries = entries_more i item g items;
            distinct = subst (IsDistinct same_node) (sym more) (IsDistinct-push same_node_laws (nodes f) n is.distinct new);
            marked = λ m h. subst (λ l. IsMark l m (mark_at g.visited m)) (sym more)
                (subst (IsMark (nodes f ++ n ∷ []) m) (sym (ap (λ l. mark_at l m) all
                ∙ marked_set f.visited n i.number mark.before mark.after (visited_at n.at i.number item.number) mark.at mark.site place
                (is_place.0 ∙ ap (λ s. place_in s n.port) (sym here.0)) (subst (λ s. place < length s.spots) (sym here.0) is_place.1) here.2 x mark.marks m))
                (mark_after n x last m h (same_node m n) refl));
            strays = λ m h. ap (λ l. has_node l m) strays ∙ is.strays m h ∙ sym (ap (λ b. has_node (nodes f) m || b) (unlike n m place is_place h) ∙ or_false (has_node (nodes f) m))
                ∙ sym (has_more (nodes f) n m) ∙ ap (λ l. has_node l m) (sym more);
          },
          more ∙ sym (with_new (nodes f) n new),
        )

    -- one node more without an entry
    pub stray_node : (i : Item) → IsItemOver G f i → entry G i.seen.node ≡ None → has_node f.strays i.seen.node ≡ false
        → (g : Found) → g.points ≡ f.points → g.visited ≡ f.visited → g.strays ≡ with_node f.strays i.seen.node → g.items.items ≡ f.items.items ++ i ∷ [] → IsFoundOver G g × (nodes g ≡ with_node (nodes f) i.seen.node)
    stray_node i item none off g points visited strays items =
        let n : Node = i.seen.node in
        let new : has_node (nodes f) n ≡ false = sym (is.strays n none) ∙ off in
        let more : nodes g ≡ nodes f ++ n ∷ [] = nodes_more f g i items in (
          record {
            points = points ∙ is.points ∙ ap (map (λ (x : Visited). x.site.at)) (sym visited);
            sites = subst (All (λ (x : Visited). IsSite G x.site)) (sym visited) is.sites;
            counts = subst (All (λ (x : Visited). length x.marks ≡ length (star_of x.site).spots)) (sym visited) is.counts;
            numbers = numbers_more i item g points items;
            origins = origins_more i item g items;
            entries = entries_more i item g items;
            distinct = subst (IsDistinct same_node) (sym more) (IsDistinct-push same_node_laws (nodes f) n is.distinct new);
            marked = λ m h. subst (λ l. IsMark l m (mark_at g.visited m)) (sym more)
                (mark_more (nodes f) n m (mark_at g.visited m) (other m h (same_node m n) refl) (subst (λ l. IsMark (nodes f) m (mark_at l m)) (sym visited) (is.marked m h)));
            strays = λ m h. ap (λ l. has_node l m) (strays ∙ with_new f.strays n off) ∙ has_more f.strays n m ∙ ap (λ b. b || same_node m n) (is.strays m h)
                ∙ sym (has_more (nodes f) n m) ∙ ap (λ l. has_node l m) (sym more);
          },
          more ∙ sym (with_new (nodes f) n new),
        )
      where
        other : (m : Node) → IsSome (entry G m) → (b : Bool) → same_node m i.seen.node ≡ b → b ≡ false
        other m h false e = refl
        other m h true e = absurd (no_spot (subst IsSome (ap (entry G) (node_same m i.seen.node e) ∙ none) h))
