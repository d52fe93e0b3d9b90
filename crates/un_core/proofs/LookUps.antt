-- Looking up the star at a point in lists of points with their stars.
use Rattle.std.proofs.Common.{◌≡◌, ◌||◌, Bool, true, false, cond, List, [], ◌∷◌, ◌++◌, map, filter, find, unwrap_or, refl, sym, ap, ◌∙◌, subst, Some, inl, inr, ◌⊎◌, true≢false}
use Rattle.std.specs.declared.cmp.Ordering.TheVariants.{Less, Equal, Greater}
use Rattle.std.specs.Ordering.{ordering_reverse}
use Rattle.std.specs.Cmp.{IsTotalOrder}
use Rattle.std.specs.List.{list_any, AllByRecursion}
use Rattle.std.specs.Map.{lookup}
use Rattle.std.specs.List.Sorted.{IsStrictlySortedBy}
use Rattle.std.specs.Option.{option_map_or}
use Rattle.un_geom.specs.declared.point.Point.{Point}
use Rattle.un_geom.specs.Places.{point_cmp, same_point}
use Rattle.un_defs.specs.declared.star.Star.{Star}
use Rattle.un_defs.specs.Star.{empty_star}
use Rattle.un_defs.specs.Orders.{rising}
use Rattle.un_defs.proofs.Rising.{Among, TiesAreOne, among-rising, among_from-rising}
use Rattle.un_defs.proofs.OrderLaws.{point_total, point_ties}
use Rattle.un_defs.proofs.Members.{among_from-filter, among_from-map}
use Rattle.un_defs.proofs.Unique.{point_same, point_itself}
use Rattle.un_defs.proofs.ListLemmas.{none_passes}
use Rattle.un_defs.proofs.Near.{false_unless}
use Rattle.un_index.specs.Kept.{stars_of}
use Rattle.un_core.specs.Validation.{by_point}

abbrev pub Pairs : Type 0
Pairs = List (Point × Star)

pub by_point_total : IsTotalOrder by_point
by_point_total = record {
  antisymm = λ a b. point_total.antisymm a.0 b.0;
  trans = λ a b c. point_total.trans a.0 b.0 c.0;
  congr = λ a b c. point_total.congr a.0 b.0 c.0;
}

-- the pair is at the point
abbrev pub is_at : Point → Point × Star → Bool
is_at p pair = same_point pair.0 p

-- the star of the first pair at the point
abbrev look : Pairs → Point → Star
look kept p = option_map_or (λ pair. pair.1) (find (is_at p) kept) empty_star

either_way : (p q : Point) → same_point p q ≡ same_point q p
either_way p q = go (same_point p q) (same_point q p) refl refl
  where
    go : (a b : Bool) → same_point p q ≡ a → same_point q p ≡ b → a ≡ b
    go true true e f = refl
    go true false e f = (sym (point_itself q) ∙ ap (λ r. same_point q r) (sym (point_same p q e)) ∙ f)
    go false true e f = sym e ∙ ap (λ r. same_point p r) (point_same q p f) ∙ point_itself p
    go false false e f = refl

stars_look : (kept : Pairs) (p : Point) → stars_of kept p ≡ look kept p
stars_look [] p = refl
stars_look (x ∷ xs) p = ap (λ b. unwrap_or (cond b (Some x.1) (lookup (same_point p) xs)) empty_star) (either_way p x.0) ∙ go (same_point x.0 p) (stars_look xs p)
  where
    go : (b : Bool) → stars_of xs p ≡ look xs p → unwrap_or (cond b (Some x.1) (lookup (same_point p) xs)) empty_star ≡ option_map_or (λ pair. pair.1) (cond b (Some x) (find (is_at p) xs)) empty_star
    go true rest = refl
    go false rest = rest

-- no pair of the list is at the point
abbrev pub IsMissing : Pairs → Point → Type 0
IsMissing xs p = (pair : Point × Star) → Among xs pair → is_at p pair ≡ false

look_missing : (xs : Pairs) (p : Point) → IsMissing xs p → look xs p ≡ empty_star
look_missing [] p h = refl
look_missing (x ∷ xs) p h =
    subst (λ b. option_map_or (λ pair. pair.1) (cond b (Some x) (find (is_at p) xs)) empty_star ≡ empty_star) (sym (h x (inl refl)))
    (look_missing xs p (λ pair i. h pair (inr i)))

-- pairs at one point are one pair
abbrev pub IsMap : Pairs → Type 0
IsMap = TiesAreOne by_point

look_found_at : (xs : Pairs) → IsMap xs → (pair : Point × Star) → Among xs pair → look xs pair.0 ≡ pair.1
look_found_at [] ties pair h = absurd h
look_found_at (x ∷ xs) ties pair h =
    elim (is_at pair.0 x) as (λ b. is_at pair.0 x ≡ b → option_map_or (λ pair. pair.1) (cond b (Some x) (find (is_at pair.0) xs)) empty_star ≡ pair.1) [
      | true ↦ λ e. ap (λ pair. pair.1) (ties x pair (inl refl) h (here (point_same x.0 pair.0 e)))
      | false ↦ λ e. elim h [
        | inl i ↦ absurd (true≢false (sym (point_itself pair.0) ∙ ap (λ p. same_point p pair.0) (sym (ap (λ pair. pair.0) i)) ∙ e))
        | inr i ↦ look_found_at xs (λ a b k l. ties a b (inr k) (inr l)) pair i
      ]
    ] refl
  where
    here : x.0 ≡ pair.0 → by_point x pair ≡ Equal
    here e = ap (λ p. point_cmp p pair.0) e ∙ itself pair.0
      where
        itself : (p : Point) → point_cmp p p ≡ Equal
        itself p = go (point_cmp p p) refl
          where
            go : (k : _) → point_cmp p p ≡ k → k ≡ Equal
            go Less e = absurd (less_not (sym e ∙ point_total.antisymm p p ∙ ap ordering_reverse e))
              where
                less_not : Less ≡ Greater → ⊥
                less_not e = cc
            go Equal e = refl
            go Greater e = absurd (greater_not (sym e ∙ point_total.antisymm p p ∙ ap ordering_reverse e))
              where
                greater_not : Greater ≡ Less → ⊥
                greater_not e = cc

all_among : {A : Type 0} (P : A → Type 0) (xs : List A) → AllByRecursion P xs → (x : A) → Among xs x → P x
all_among P [] h x g = absurd g
all_among P (y ∷ ys) h x g = elim g [ inl e ↦ subst P e h.0 | inr i ↦ all_among P ys h.1 x i ]

less_is_not : {A : Type 0} (a b : Point × Star) → by_point a b ≡ Less → by_point a b ≡ Equal → A
less_is_not a b l e = absurd (apart (sym l ∙ e))
  where
    apart : Less ≡ Equal → ⊥
    apart e = cc

-- in a list in order each point stands once
pub sorted_map : (xs : Pairs) → IsStrictlySortedBy by_point xs → IsMap xs
unfolding IsStrictlySortedBy
sorted_map [] h a b k l e = absurd k
sorted_map (x ∷ xs) h a b k l e =
    elim k [
      | inl i ↦ elim l [
        | inl j ↦ sym i ∙ j
        | inr j ↦ less_is_not x b (all_among (λ y. by_point x y ≡ Less) xs h.0 b j) (ap (λ z. by_point z b) i ∙ e)
      ]
      | inr i ↦ elim l [
        | inl j ↦ less_is_not x a (all_among (λ y. by_point x y ≡ Less) xs h.0 a i) (by_point_total.antisymm x a ∙ ap ordering_reverse (ap (by_point a) j ∙ e))
        | inr j ↦ sorted_map xs h.1 a b i j e
      ]
    ]

-- some pair is at the point, or none is
pub at_point : (xs : Pairs) (p : Point) → ((pair : Point × Star) × Among xs pair × (is_at p pair ≡ true)) ⊎ IsMissing xs p
at_point [] p = inr (λ pair h. absurd h)
at_point (x ∷ xs) p =
    elim (is_at p x) as (λ b. is_at p x ≡ b → ((pair : Point × Star) × Among (x ∷ xs) pair × (is_at p pair ≡ true)) ⊎ IsMissing (x ∷ xs) p) [
      | true ↦ λ e. inl (x, inl refl, e)
      | false ↦ λ e. elim (at_point xs p) [
        | inl r ↦ inl (r.0, inr r.1, r.2)
        | inr m ↦ inr (λ pair h. elim h [ inl i ↦ ap (is_at p) (sym i) ∙ e | inr i ↦ m pair i ])
      ]
    ] refl

-- sorting a list changes no look-up
look_stars_rising : (xs : Pairs) → IsMap xs → (p : Point) → look (rising by_point xs) p ≡ look xs p
look_stars_rising xs ties p =
    elim (at_point xs p) [
      | inl r ↦
          let at : r.0.0 ≡ p = point_same r.0.0 p r.2 in
          let sorted : look (rising by_point xs) r.0.0 ≡ r.0.1 = look_found_at (rising by_point xs) (λ a b k l. ties a b (among_from-rising by_point xs a k) (among_from-rising by_point xs b l)) r.0 (among-rising by_point xs ties r.0 r.1) in
          subst (λ q. look (rising by_point xs) q ≡ look xs q) at (sorted ∙ sym (look_found_at xs ties r.0 r.1))
      | inr m ↦ look_missing (rising by_point xs) p (λ pair i. m pair (among_from-rising by_point xs pair i)) ∙ sym (look_missing xs p m)
    ]

-- a look-up in two lists, of which one has nothing at the point
look_stars_right : (xs ys : Pairs) (p : Point) → IsMissing xs p → look (xs ++ ys) p ≡ look ys p
look_stars_right [] ys p m = refl
look_stars_right (x ∷ xs) ys p m =
    subst (λ b. option_map_or (λ pair. pair.1) (cond b (Some x) (find (is_at p) (xs ++ ys))) empty_star ≡ look ys p) (sym (m x (inl refl)))
    (look_stars_right xs ys p (λ pair i. m pair (inr i)))

look_stars_left : (xs ys : Pairs) (p : Point) → IsMissing ys p → look (xs ++ ys) p ≡ look xs p
look_stars_left [] ys p m = look_missing ys p m
look_stars_left (x ∷ xs) ys p m =
    elim (is_at p x) as (λ b. option_map_or (λ pair. pair.1) (cond b (Some x) (find (is_at p) (xs ++ ys))) empty_star ≡ option_map_or (λ pair. pair.1) (cond b (Some x) (find (is_at p) xs)) empty_star) [
      | true ↦ refl
      | false ↦ look_stars_left xs ys p m
    ]

-- the pairs whose points pass a test
abbrev pub kept_by : (Point → Bool) → Pairs → Pairs
kept_by t = filter (λ pair. t pair.0)

pub missing_kept : (t : Point → Bool) (xs : Pairs) (p : Point) → t p ≡ false → IsMissing (kept_by t xs) p
missing_kept t xs p f pair h =
    false_unless (is_at p pair) (λ at. true≢false (sym (among_from-filter (λ pair. t pair.0) xs pair h).1 ∙ ap t (point_same pair.0 p at) ∙ f))

look_stars_kept : (t : Point → Bool) (xs : Pairs) (p : Point) → t p ≡ true → look (kept_by t xs) p ≡ look xs p
look_stars_kept t xs p e =
    elim (at_point xs p) [
      | inl r ↦ go xs
      | inr m ↦ look_missing (kept_by t xs) p (λ pair i. m pair (among_from-filter (λ pair. t pair.0) xs pair i).0) ∙ sym (look_missing xs p m)
    ]
  where
    pass : (b : Bool) (x : Point × Star) (ys zs : Pairs) → t x.0 ≡ b → look ys p ≡ look zs p → look (cond b (x ∷ ys) ys) p ≡ look (x ∷ zs) p
    pass true x ys zs k h = elim (is_at p x) as (λ b. option_map_or (λ pair. pair.1) (cond b (Some x) (find (is_at p) ys)) empty_star ≡ option_map_or (λ pair. pair.1) (cond b (Some x) (find (is_at p) zs)) empty_star) [
      | true ↦ refl
      | false ↦ h
    ]
    pass false x ys zs k h = subst (λ b. look ys p ≡ option_map_or (λ pair. pair.1) (cond b (Some x) (find (is_at p) zs)) empty_star)
        (sym (false_unless (is_at p x) (λ at. true≢false (sym e ∙ ap t (sym (point_same x.0 p at)) ∙ k)))) h

    go : (xs : Pairs) → look (kept_by t xs) p ≡ look xs p
    go [] = refl
    go (x ∷ xs) = pass (t x.0) x (kept_by t xs) xs refl (go xs)

-- ---- a table: points with what a function gives of each

abbrev pub table : (Point → Star) → List Point → Pairs
table f = map (λ p. (p, f p))

look_stars_table : (f : Point → Star) (ps : List Point) (p : Point) → list_any (λ q. same_point q p) ps ≡ true → look (table f ps) p ≡ f p
look_stars_table f [] p h = absurd (true≢false (sym h))
look_stars_table f (q ∷ qs) p h =
    elim (same_point q p) as (λ b. same_point q p ≡ b → (b || list_any (λ q. same_point q p) qs) ≡ true → option_map_or (λ pair. pair.1) (cond b (Some (q, f q)) (find (is_at p) (table f qs))) empty_star ≡ f p) [
      | true ↦ λ e _. ap f (point_same q p e)
      | false ↦ λ _ h. look_stars_table f qs p h
    ] refl h

pub missing_table : (f : Point → Star) (ps : List Point) (p : Point) → list_any (λ q. same_point q p) ps ≡ false → IsMissing (table f ps) p
missing_table f ps p h pair i =
    let r = among_from-map (λ p. (p, f p)) ps pair i in
    ap (is_at p) (sym r.2) ∙ none_passes (λ q. same_point q p) ps h r.0 r.1

pub table_map : (f : Point → Star) (ps : List Point) → IsMap (table f ps)
table_map f ps a b k l e =
    let i = among_from-map (λ p. (p, f p)) ps a k in
    let j = among_from-map (λ p. (p, f p)) ps b l in
    let same : i.0 ≡ j.0 = point_ties i.0 j.0 (ap (λ z. point_cmp z.0 j.0) i.2 ∙ ap (λ z. point_cmp a.0 z.0) j.2 ∙ e) in
    sym i.2 ∙ ap (λ p. (p, f p)) same ∙ j.2

-- ---- the same of what a list tells

pub missing : (xs : Pairs) (p : Point) → IsMissing xs p → stars_of xs p ≡ empty_star
missing xs p m = stars_look xs p ∙ look_missing xs p m

pub found_at : (xs : Pairs) → IsMap xs → (pair : Point × Star) → Among xs pair → stars_of xs pair.0 ≡ pair.1
found_at xs ties pair h = stars_look xs pair.0 ∙ look_found_at xs ties pair h

pub stars_rising : (xs : Pairs) → IsMap xs → (p : Point) → stars_of (rising by_point xs) p ≡ stars_of xs p
stars_rising xs ties p = stars_look (rising by_point xs) p ∙ look_stars_rising xs ties p ∙ sym (stars_look xs p)

pub stars_right : (xs ys : Pairs) (p : Point) → IsMissing xs p → stars_of (xs ++ ys) p ≡ stars_of ys p
stars_right xs ys p m = stars_look (xs ++ ys) p ∙ look_stars_right xs ys p m ∙ sym (stars_look ys p)

pub stars_left : (xs ys : Pairs) (p : Point) → IsMissing ys p → stars_of (xs ++ ys) p ≡ stars_of xs p
stars_left xs ys p m = stars_look (xs ++ ys) p ∙ look_stars_left xs ys p m ∙ sym (stars_look xs p)

pub stars_kept : (t : Point → Bool) (xs : Pairs) (p : Point) → t p ≡ true → stars_of (kept_by t xs) p ≡ stars_of xs p
stars_kept t xs p e = stars_look (kept_by t xs) p ∙ look_stars_kept t xs p e ∙ sym (stars_look xs p)

pub stars_table : (f : Point → Star) (ps : List Point) (p : Point) → list_any (λ q. same_point q p) ps ≡ true → stars_of (table f ps) p ≡ f p
stars_table f ps p h = stars_look (table f ps) p ∙ look_stars_table f ps p h
