-- The dirt of some nodes, said of each node and area by itself, and how it changes with one more node.
use Rattle.std.proofs.Common.{◌≡◌, ℕ, Bool, true, false, cond, List, [], ◌∷◌, ◌++◌, map, filter, slice_get, is_lt, Ordering, Less, Equal, Greater, nat_cmp, Option, Some, None, option_map, option_and_then, is_some, refl, sym, ap, subst, ◌∙◌, ◌⊎◌, inl, inr, true≢false}
use Rattle.std.specs.List.{list_any, AllByRecursion}
use Rattle.std.specs.List.Sorted.{IsStrictlySortedBy}
use Rattle.std.specs.Ordering.{ordering_then, ordering_reverse}
use Rattle.std.specs.Cmp.{IsTotalOrder, on_total, then_total, nat_cmp_total, tied_itself}
use Rattle.std.specs.FinMap.{nat_cmp-IsAntisymmetric}
use Rattle.un_geom.specs.declared.point.Point.{Point}
use Rattle.un_geom.specs.Rectangle.{Rectangle}
use Rattle.un_geom.specs.Places.{covers}
use Rattle.un_defs.specs.declared.port.Node.{Node}
use Rattle.un_defs.specs.declared.walk.Dirt.{Dirt}
use Rattle.un_defs.specs.Orders.{rising, least, port_cmp}
use Rattle.un_defs.specs.Ground.{Ground, AreNumbered, is_dirty, least_area_at}
use Rattle.un_defs.specs.Reach.{dirt, area_cmp, ports_under, areas_over}
use Rattle.un_defs.proofs.Rising.{Among, TiesAreOne, among-rising, among_from-rising, sorted-rising}
use Rattle.un_defs.proofs.Members.{among_left, among_right, among_cases, among-map, among_from-map, among-filter, among_from-filter, list_any_from_among, among_from_list_any}
use Rattle.un_defs.proofs.ListLemmas.{filter-none}
use Rattle.un_defs.proofs.LinkCases.{some_same}
use Rattle.un_defs.proofs.OrderLaws.{port_total, port_ties}
use Rattle.un_defs.proofs.Unique.{unique_by}
use Rattle.un_walk.specs.Dirt.{dirt_cmp, dirt_after}

-- ---- the least of a list

all_among : {A : Type 0} (P : A → Type 0) (xs : List A) → AllByRecursion P xs → (x : A) → Among xs x → P x
all_among P [] h x g = absurd g
all_among P (y ∷ ys) h x g = elim g [ inl e ↦ subst P e h.0 | inr i ↦ all_among P ys h.1 x i ]

module _ {A : Type 0} {cmp : A → A → Ordering} (o : IsTotalOrder cmp) where
  not_less : (x y : A) → cmp x y ≡ Less → ¬ (cmp y x ≡ Less)
  not_less x y a b = let e : Less ≡ Greater = sym a ∙ o.antisymm x y ∙ ap ordering_reverse b in cc

  head_low : (xs : List A) (x y : A) → IsStrictlySortedBy cmp xs → slice_get xs 0 ≡ Some x → Among xs y → ¬ (cmp y x ≡ Less)
  unfolding IsStrictlySortedBy
  head_low [] x y s e h = absurd h
  head_low (z ∷ zs) x y s e h =
      let same : z ≡ x = some_same z x e in
      elim h [
        | inl i ↦ λ less. not_less x x (subst (λ w. cmp w x ≡ Less) (sym i ∙ same) less) (subst (λ w. cmp w x ≡ Less) (sym i ∙ same) less)
        | inr i ↦ not_less x y (subst (λ w. cmp w y ≡ Less) same (all_among (λ w. cmp z w ≡ Less) zs s.0 y i))
      ]

  head_is : (xs : List A) (x : A) → IsStrictlySortedBy cmp xs → Among xs x → ((y : A) → Among xs y → ¬ (cmp y x ≡ Less)) → slice_get xs 0 ≡ Some x
  unfolding IsStrictlySortedBy
  head_is [] x s h low = absurd h
  head_is (z ∷ zs) x s h low = elim h [
    | inl e ↦ ap Some e
    | inr i ↦ absurd (low z (inl refl) (all_among (λ w. cmp z w ≡ Less) zs s.0 x i))
  ]

  -- an element below which there is none is the least
  pub least_is : (xs : List A) (x : A) → TiesAreOne cmp xs → Among xs x → ((y : A) → Among xs y → ¬ (cmp y x ≡ Less)) → least cmp xs ≡ Some x
  least_is xs x ties h low =
      head_is (rising cmp xs) x (sorted-rising o xs) (among-rising cmp xs ties x h) (λ y g. low y (among_from-rising cmp xs y g))

  head_among : (xs : List A) (x : A) → slice_get xs 0 ≡ Some x → Among xs x
  head_among [] x e = cc
  head_among (z ∷ zs) x e = inl (some_same z x e)

  -- the least is one of the elements
  pub least_among : (xs : List A) (x : A) → least cmp xs ≡ Some x → Among xs x
  least_among xs x e = among_from-rising cmp xs x (head_among (rising cmp xs) x e)

  -- and none is below it
  pub least_low : (xs : List A) (x y : A) → TiesAreOne cmp xs → least cmp xs ≡ Some x → Among xs y → ¬ (cmp y x ≡ Less)
  least_low xs x y ties e h = head_low (rising cmp xs) x y (sorted-rising o xs) e (among-rising cmp xs ties y h)

  head_none : (xs : List A) (x : A) → slice_get xs 0 ≡ None → ¬ (Among xs x)
  head_none [] x e h = h
  head_none (z ∷ zs) x e h = let f : Some z ≡ None = e in cc

  -- a list without a least has no elements
  pub none_low : (xs : List A) (x : A) → TiesAreOne cmp xs → least cmp xs ≡ None → ¬ (Among xs x)
  none_low xs x ties e h = head_none (rising cmp xs) x e (among-rising cmp xs ties x h)

-- ---- the areas over one point

abbrev numbers_over : Ground → Point → List ℕ
numbers_over G p = map (λ area. area.0) (filter (λ area. covers area.1 p) G.areas)

number_ties : (xs : List ℕ) → TiesAreOne nat_cmp xs
number_ties xs x y h g e = nat_cmp-IsAntisymmetric x y e

module _ (G : Ground) (p : Point) where
  over_point : (b : ℕ × Rectangle) → Among G.areas b → covers b.1 p ≡ true → Among (numbers_over G p) b.0
  over_point b h c = among-map (λ area. area.0) (filter (λ area. covers area.1 p) G.areas) b (among-filter (λ area. covers area.1 p) G.areas b h c)

  -- where there is no least area, none covers the point
  pub no_area : least_area_at G p ≡ None → (b : ℕ × Rectangle) → Among G.areas b → ¬ (covers b.1 p ≡ true)
  no_area e b h c = none_low nat_cmp_total (numbers_over G p) b.0 (number_ties (numbers_over G p)) e (over_point b h c)

  -- an area with the least number covers the point
  pub least_area : (a : ℕ) → least_area_at G p ≡ Some a → (b : ℕ × Rectangle) × Among G.areas b × (b.0 ≡ a) × (covers b.1 p ≡ true)
  least_area a e =
      let r = among_from-map (λ area. area.0) (filter (λ area. covers area.1 p) G.areas) a (least_among nat_cmp_total (numbers_over G p) a e) in
      let f = among_from-filter (λ area. covers area.1 p) G.areas r.0 r.1 in
      (r.0, f.0, r.2, f.1)

  -- and none below it does
  pub none_below : (a : ℕ) → least_area_at G p ≡ Some a → (b : ℕ × Rectangle) → Among G.areas b → covers b.1 p ≡ true → ¬ (nat_cmp b.0 a ≡ Less)
  none_below a e b h c = least_low nat_cmp_total (numbers_over G p) a b.0 (number_ties (numbers_over G p)) e (over_point b h c)

  dirty_by : (o : Option ℕ) → least_area_at G p ≡ o → is_dirty G p ≡ is_some o
  dirty_by None e = clean (is_dirty G p) refl
    where
      clean : (b : Bool) → is_dirty G p ≡ b → b ≡ false
      clean false f = refl
      clean true f = let r = among_from_list_any (λ area. covers area.1 p) G.areas f in absurd (no_area e r.0 r.1 r.2)
  dirty_by (Some a) e = let r = least_area a e in list_any_from_among (λ area. covers area.1 p) G.areas r.0 r.1 r.3

  -- a point is dirty where it has a least area
  pub is_dirty_by : is_dirty G p ≡ is_some (least_area_at G p)
  is_dirty_by = dirty_by (least_area_at G p) refl

-- ---- the dirt of some nodes

pub dirt_total : IsTotalOrder dirt_cmp
dirt_total = then_total (on_total (λ (d : Dirt). d.area) nat_cmp_total) (on_total (λ (d : Dirt). d.port) port_total)

-- what a node is to be named by, if this area is
abbrev pub piece : ℕ × Rectangle → Node → Dirt
piece area n = record { area = area.0; port = n.port }

-- the dirt is a node's by an area that covers it, and no node's by any area is below it
pub record IsLeastDirt (G : Ground) (ns : List Node) (d : Dirt) : Type 0 where
  pub area : ℕ × Rectangle
  pub node : Node
  pub known : Among G.areas area
  pub met : Among ns node
  pub covered : covers area.1 node.at ≡ true
  pub is : piece area node ≡ d
  pub low : (b : ℕ × Rectangle) (n : Node) → Among G.areas b → Among ns n → covers b.1 n.at ≡ true → ¬ (dirt_cmp (piece b n) d ≡ Less)

-- no area covers a node
pub record IsClean (G : Ground) (ns : List Node) : Type 0 where
  pub none : (b : ℕ × Rectangle) (n : Node) → Among G.areas b → Among ns n → ¬ (covers b.1 n.at ≡ true)

abbrev pub IsDirtOf : Ground → List Node → Option Dirt → Type 0
IsDirtOf G ns None = IsClean G ns
IsDirtOf G ns (Some d) = IsLeastDirt G ns d

-- below the first, or a tie there and below the second
less_then : (j k : Ordering) → ordering_then j k ≡ Less → (j ≡ Less) ⊎ ((j ≡ Equal) × (k ≡ Less))
less_then Less k e = inl refl
less_then Equal k e = inr (refl, e)
less_then Greater k e = let f : Greater ≡ Less = e in absurd (cc)

first_less : (j k : Ordering) → j ≡ Less → ordering_then j k ≡ Less
first_less j k e = ap (λ j. ordering_then j k) e

first_ties : (j k : Ordering) → j ≡ Equal → ordering_then j k ≡ k
first_ties j k e = ap (λ j. ordering_then j k) e

module _ (G : Ground) where
  -- with nothing walked over, there is no dirt
  pub dirt_none : IsDirtOf G [] None
  dirt_none = record { none = λ b n h g c. g }

  -- no piece of the node is below its own by the least area
  own_low : (n : Node) (a : ℕ) → least_area_at G n.at ≡ Some a → (b : ℕ × Rectangle) → Among G.areas b → covers b.1 n.at ≡ true
      → ¬ (dirt_cmp (piece b n) (record { area = a; port = n.port }) ≡ Less)
  own_low n a e b h c less = elim (less_then (nat_cmp b.0 a) (port_cmp n.port n.port) less) [
    | inl f ↦ none_below G n.at a e b h c f
    | inr f ↦ not_less port_total n.port n.port f.1 f.1
  ]

  -- the piece by the least area is as low as any other of the node
  under : (n : Node) (a : ℕ) → least_area_at G n.at ≡ Some a → (b : ℕ × Rectangle) → Among G.areas b → covers b.1 n.at ≡ true → (d : Dirt)
      → dirt_cmp (piece b n) d ≡ Less → dirt_cmp (record { area = a; port = n.port }) d ≡ Less
  under n a e b h c d less = by_order (dirt_cmp here (piece b n)) refl
    where
      here : Dirt
      here = record { area = a; port = n.port }

      by_order : (k : Ordering) → dirt_cmp here (piece b n) ≡ k → dirt_cmp here d ≡ Less
      by_order Less f = dirt_total.trans here (piece b n) d f less
      by_order Equal f = dirt_total.congr here (piece b n) d f ∙ less
      by_order Greater f = absurd (own_low n a e b h c (dirt_total.antisymm (piece b n) here ∙ ap ordering_reverse f))

  module _ (ns : List Node) (n : Node) where
    abbrev more : List Node
    more = ns ++ n ∷ []

    still_clean : least_area_at G n.at ≡ None → IsClean G ns → IsClean G more
    still_clean e old = record {
      none = λ b m h g c. elim (among_cases ns (n ∷ []) m g) [
        | inl i ↦ old.none b m h i c
        | inr i ↦ elim i [ inl f ↦ no_area G n.at e b h (subst (λ k. covers b.1 k.at ≡ true) (sym f) c) | inr f ↦ f ]
      ];
    }

    still_least : (d : Dirt) → ((b : ℕ × Rectangle) → Among G.areas b → covers b.1 n.at ≡ true → ¬ (dirt_cmp (piece b n) d ≡ Less)) → IsLeastDirt G ns d → IsLeastDirt G more d
    still_least d here old = record {
      area = old.area;
      node = old.node;
      known = old.known;
      met = among_left ns (n ∷ []) old.node old.met;
      covered = old.covered;
      is = old.is;
      low = λ b m h g c. elim (among_cases ns (n ∷ []) m g) [
        | inl i ↦ old.low b m h i c
        | inr i ↦ elim i [
          | inl f ↦ subst (λ k. ¬ (dirt_cmp (piece b k) d ≡ Less)) f (here b h (subst (λ k. covers b.1 k.at ≡ true) (sym f) c))
          | inr f ↦ absurd f
        ]
      ];
    }

    now_least : (a : ℕ) → least_area_at G n.at ≡ Some a
        → ((b : ℕ × Rectangle) (m : Node) → Among G.areas b → Among ns m → covers b.1 m.at ≡ true → ¬ (dirt_cmp (piece b m) (record { area = a; port = n.port }) ≡ Less))
        → IsLeastDirt G more (record { area = a; port = n.port })
    now_least a e before =
        let r = least_area G n.at a e in record {
          area = r.0;
          node = n;
          known = r.1;
          met = among_right ns (n ∷ []) n (inl refl);
          covered = r.3;
          is = ap (λ k. record { area = k; port = n.port }) r.2;
          low = λ b m h g c. elim (among_cases ns (n ∷ []) m g) [
            | inl i ↦ before b m h i c
            | inr i ↦ elim i [
              | inl f ↦ subst (λ k. ¬ (dirt_cmp (piece b k) (record { area = a; port = n.port }) ≡ Less)) f
                  (own_low n a e b h (subst (λ k. covers b.1 k.at ≡ true) (sym f) c))
              | inr f ↦ absurd f
            ]
          ];
        }

    lower : (d : Dirt) (a : ℕ) → least_area_at G n.at ≡ Some a → IsLeastDirt G ns d → (b : Bool) → is_lt (dirt_cmp (record { area = a; port = n.port }) d) ≡ b
        → IsDirtOf G more (cond b (Some (record { area = a; port = n.port })) (Some d))
    lower d a e old true lt = now_least a e (λ b m h g c less. old.low b m h g c
        (dirt_total.trans (piece b m) (record { area = a; port = n.port }) d less (less_from_is_lt (dirt_cmp (record { area = a; port = n.port }) d) lt)))
      where
        less_from_is_lt : (k : Ordering) → is_lt k ≡ true → k ≡ Less
        less_from_is_lt Less f = refl
        less_from_is_lt Equal f = absurd (true≢false (sym f))
        less_from_is_lt Greater f = absurd (true≢false (sym f))
    lower d a e old false lt = still_least d (λ b h c less.
        true≢false (sym (ap is_lt (under n a e b h c d less)) ∙ lt)) old

    -- one more node
    pub dirt_step : (least : Option Dirt) (area : Option ℕ) → least_area_at G n.at ≡ area → IsDirtOf G ns least → IsDirtOf G more (dirt_after least area n.port)
    dirt_step None None e old = still_clean e old
    dirt_step (Some d) None e old = still_least d (λ b h c. absurd (no_area G n.at e b h c)) old
    dirt_step None (Some a) e old = now_least a e (λ b m h g c. absurd (old.none b m h g c))
    dirt_step (Some d) (Some a) e old = lower d a e old (is_lt (dirt_cmp (record { area = a; port = n.port }) d)) refl

  -- ---- the dirt by its definition

  -- the dirt of the same nodes in another order
  pub dirt_moved : (ns ms : List Node) → ((n : Node) → Among ns n → Among ms n) → ((n : Node) → Among ms n → Among ns n)
      → (d : Option Dirt) → IsDirtOf G ns d → IsDirtOf G ms d
  dirt_moved ns ms to from None old = record { none = λ b n h g. old.none b n h (from n g) }
  dirt_moved ns ms to from (Some d) old = record {
    area = old.area;
    node = old.node;
    known = old.known;
    met = to old.node old.met;
    covered = old.covered;
    is = old.is;
    low = λ b n h g. old.low b n h (from n g);
  }

  abbrev name_of : List Node → ℕ × Rectangle → Option Dirt
  name_of ns area = option_map (λ q. record { area = area.0; port = q }) (least port_cmp (ports_under area ns))

  area_ties : AreNumbered G.areas → (ns : List Node) → TiesAreOne area_cmp (areas_over G ns)
  area_ties numbered ns a b h g e =
      unique_by (λ (x : ℕ × Rectangle). x.0) G.areas numbered a b
      (among_from-filter (λ area. list_any (λ n. covers area.1 n.at) ns) G.areas a h).0
      (among_from-filter (λ area. list_any (λ n. covers area.1 n.at) ns) G.areas b g).0
      (nat_cmp-IsAntisymmetric a.0 b.0 e)

  -- what is said of each node and area is what the definition says
  pub dirt_is : AreNumbered G.areas → (ns : List Node) (d : Option Dirt) → IsDirtOf G ns d → d ≡ dirt G ns
  dirt_is numbered ns None clean =
      let none : areas_over G ns ≡ [] = filter-none (λ area. list_any (λ n. covers area.1 n.at) ns) G.areas (λ b h. unmet b h (list_any (λ n. covers b.1 n.at) ns) refl) in
      sym (ap (λ areas. option_and_then (name_of ns) (least area_cmp areas)) none)
    where
      unmet : (b : ℕ × Rectangle) → Among G.areas b → (k : Bool) → list_any (λ n. covers b.1 n.at) ns ≡ k → list_any (λ n. covers b.1 n.at) ns ≡ false
      unmet b h true e = let r = among_from_list_any (λ (n : Node). covers b.1 n.at) ns e in absurd (clean.none b r.0 h r.1 r.2)
      unmet b h false e = e
  dirt_is numbered ns (Some d) is =
      let area = is.area in
      let numbers : area.0 ≡ d.area = ap (λ e. e.area) is.is in
      let ports : is.node.port ≡ d.port = ap (λ e. e.port) is.is in
      let first : least area_cmp (areas_over G ns) ≡ Some area =
      least_is (on_total (λ (x : ℕ × Rectangle). x.0) nat_cmp_total) (areas_over G ns) area (area_ties numbered ns)
      (among-filter (λ area. list_any (λ n. covers area.1 n.at) ns) G.areas area is.known (list_any_from_among (λ (n : Node). covers area.1 n.at) ns is.node is.met is.covered))
      (λ b h less.
      let f = among_from-filter (λ area. list_any (λ n. covers area.1 n.at) ns) G.areas b h in
      let r = among_from_list_any (λ (n : Node). covers b.1 n.at) ns f.1 in
      is.low b r.0 f.0 r.1 r.2 (first_less (nat_cmp b.0 d.area) (port_cmp r.0.port d.port) (subst (λ k. nat_cmp b.0 k ≡ Less) numbers less))) in
      let second : least port_cmp (ports_under area ns) ≡ Some d.port =
      least_is port_total (ports_under area ns) d.port (λ q r _ _ e. port_ties q r e)
      (subst (Among (ports_under area ns)) ports (among-map (λ n. n.port) (filter (λ n. covers area.1 n.at) ns) is.node (among-filter (λ n. covers area.1 n.at) ns is.node is.met is.covered)))
      (λ q h less.
      let r = among_from-map (λ (n : Node). n.port) (filter (λ n. covers area.1 n.at) ns) q h in
      let f = among_from-filter (λ (n : Node). covers area.1 n.at) ns r.0 r.1 in
      is.low area r.0 is.known f.0 f.1
      (first_ties (nat_cmp area.0 d.area) (port_cmp r.0.port d.port) (subst (λ k. nat_cmp area.0 k ≡ Equal) numbers (tied_itself nat_cmp_total area.0))
      ∙ subst (λ k. port_cmp k d.port ≡ Less) (sym r.2) less)) in
      sym (ap (option_and_then (name_of ns)) first ∙ ap (option_map (λ q. record { area = area.0; port = q })) second ∙ ap (λ k. Some (record { area = k; port = d.port })) numbers)
