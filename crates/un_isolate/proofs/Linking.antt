-- How the lists of links grow.
use Rattle.std.proofs.Common.{◌≡◌, ◌≢◌, ◌↔◌, ℕ, zero, suc, ◌+◌, ◌<◌, ◌⊎◌, inl, inr, List, [], ◌∷◌, ◌++◌, length, set, Some, refl, sym, ap, subst, ◌∙◌, arith}
use Rattle.std.specs.Prelude.{slice_get, Contains}
use Rattle.std.proofs.lemmas.Bool.{cases_eq}
use Rattle.std.proofs.lemmas.List.{length-set, length_push}
use Rattle.std.proofs.lemmas.List.Elements.{Contains-append_left, Contains-push, Contains-push_cases}
use Rattle.smallvec.specs.SmallVec.{SmallVec}
use Rattle.un_defs.specs.declared.walk.Barriers.{Barriers}
use Rattle.un_walk.specs.declared.seen.Seen.{Seen}
use Rattle.un_isolate.specs.Entries.{IsNextOf}
use Rattle.un_isolate.specs.Links.{HasLink, LeadInside, AreLinksOf, AddsLink, AddsLinksTo, AreTurned}

-- ---- lists by places

slice_get-set_same : {X : Type 0} (xs : List X) (i : ℕ) (y : X) → i < length xs → slice_get (set xs i y) i ≡ Some y
slice_get-set_same [] i y h = absurd (omega arith)
slice_get-set_same (x ∷ xs) zero y h = refl
slice_get-set_same (x ∷ xs) (suc i) y h = slice_get-set_same xs i y (omega arith)

slice_get-set_other : {X : Type 0} (xs : List X) (i k : ℕ) (y : X) → k ≢ i → slice_get (set xs i y) k ≡ slice_get xs k
slice_get-set_other [] i k y ne = refl
slice_get-set_other (x ∷ xs) zero zero y ne = absurd (ne refl)
slice_get-set_other (x ∷ xs) zero (suc k) y ne = refl
slice_get-set_other (x ∷ xs) (suc i) zero y ne = refl
slice_get-set_other (x ∷ xs) (suc i) (suc k) y ne = slice_get-set_other xs i k y (λ e. ne (ap suc e))

slice_get-push_at : {X : Type 0} (xs : List X) (y : X) → slice_get (xs ++ y ∷ []) (length xs) ≡ Some y
slice_get-push_at [] y = refl
slice_get-push_at (x ∷ xs) y = slice_get-push_at xs y

slice_get-push_before : {X : Type 0} (xs : List X) (y : X) (i : ℕ) → i < length xs → slice_get (xs ++ y ∷ []) i ≡ slice_get xs i
slice_get-push_before [] y i h = absurd (omega arith)
slice_get-push_before (x ∷ xs) y zero h = refl
slice_get-push_before (x ∷ xs) y (suc i) h = slice_get-push_before xs y i (omega arith)

some_is : {X : Type 0} (x y : X) → Some x ≡ Some y → x ≡ y
some_is x y e = cc

-- what a list holds after a push it held before, or is what was pushed
slice_get-push_cases : {X : Type 0} (xs : List X) (y : X) (k : ℕ) (z : X) → slice_get (xs ++ y ∷ []) k ≡ Some z → (slice_get xs k ≡ Some z) ⊎ ((k ≡ length xs) × (y ≡ z))
slice_get-push_cases [] y zero z at = inr (refl, some_is y z at)
slice_get-push_cases [] y (suc k) z at = absurd (cc)
slice_get-push_cases (x ∷ xs) y zero z at = inl at
slice_get-push_cases (x ∷ xs) y (suc k) z at = elim (slice_get-push_cases xs y k z at) [ inl e ↦ inl e | inr e ↦ inr (ap suc e.0, e.1) ]

-- ---- links

-- one more list, which is empty
pub empty_more : (links : List (SmallVec ℕ)) (ends : SmallVec ℕ) → ends.items ≡ [] → ((i j : ℕ) → HasLink links i j → ⊥) → (i j : ℕ) → HasLink (links ++ ends ∷ []) i j → ⊥
empty_more links ends none empty i j (other, at, has) = elim (slice_get-push_cases links ends i other at) [
  | inl before ↦ empty i j (other, before, has)
  | inr same ↦
      let items : other.items ≡ [] = ap (λ (r : SmallVec ℕ). r.items) (sym same.1) ∙ none in
      absurd (omega (arith, has.1, ap length items))
]

-- the links of the next place
pub links_more : (B : Barriers) (seen : List Seen) (links : List (SmallVec ℕ)) (ends : SmallVec ℕ) (v : Seen) (k m : ℕ) → m ≡ k + 1 → slice_get seen k ≡ Some v
    → AreLinksOf B seen links k → ((p : ℕ) → Contains ends.items p ↔ IsNextOf B seen v p) → AreLinksOf B seen (links ++ ends ∷ []) m
links_more B seen links ends v k m is at so_far next = record {
  count = length_push links ends ∙ (let count = so_far.count in omega arith);
  exact = λ i j. (
    λ (row, row_at, has). elim (slice_get-push_cases links ends i row row_at) [
      | inl before ↦ let old = (so_far.exact i j).0 (row, before, has) in (omega (arith, old.0, is), old.1)
      | inr same ↦
          let here : i ≡ k = same.0 ∙ so_far.count in
          (omega (arith, here, is), (v, subst (λ p. slice_get seen p ≡ Some v) (sym here) at, (next j).0 (subst (λ (r : SmallVec ℕ). Contains r.items j) (sym same.1) has)))
    ],
    λ (low, step). elim (cases_eq i k) [
      | inl e ↦
          let same : step.0 ≡ v = some_is step.0 v (sym step.1 ∙ ap (slice_get seen) e ∙ at) in
          (ends, subst (λ p. slice_get (links ++ ends ∷ []) p ≡ Some ends) (so_far.count ∙ sym e) (slice_get-push_at links ends), (next j).1 (subst (λ (w : Seen). IsNextOf B seen w j) same step.2))
      | inr ne ↦
          let old = (so_far.exact i j).1 (omega (arith, low, is), step) in
          (old.0, slice_get-push_before links ends i (omega (arith, so_far.count, low, is)) ∙ old.1, old.2)
    ],
  );
}

-- one list gets one more link
pub adds_link : (links : List (SmallVec ℕ)) (from to : ℕ) (ends more : SmallVec ℕ) → from < length links → slice_get links from ≡ Some ends → more.items ≡ ends.items ++ to ∷ [] → AddsLink links (set links from more) from to
adds_link links from to ends more inside at items = record {
  count = length-set links from more;
  kept = λ i j (r, r_at, has). elim (cases_eq i from) [
    | inl e ↦
        let same : ends ≡ r = some_is ends r (sym at ∙ subst (λ k. slice_get links k ≡ Some r) e r_at) in (
          more,
          subst (λ k. slice_get (set links from more) k ≡ Some more) (sym e) here,
          subst (λ xs. Contains xs j) (sym items) (Contains-append_left ends.items (to ∷ []) j (subst (λ (v : SmallVec ℕ). Contains v.items j) (sym same) has)),
        )
    | inr ne ↦ (r, slice_get-set_other links from i more ne ∙ r_at, has)
  ];
  added = (more, here, subst (λ xs. Contains xs to) (sym items) (Contains-push ends.items to));
  only = λ i j (r, r_at, has). elim (cases_eq i from) [
    | inl e ↦
        let same : more ≡ r = some_is more r (sym here ∙ subst (λ k. slice_get (set links from more) k ≡ Some r) e r_at) in
        elim (Contains-push_cases ends.items to j (subst (λ xs. Contains xs j) items (subst (λ (v : SmallVec ℕ). Contains v.items j) (sym same) has))) [
          | inl before ↦ inl (ends, subst (λ k. slice_get links k ≡ Some ends) (sym e) at, before)
          | inr is ↦ inr (e, sym is)
        ]
    | inr ne ↦ inl (r, sym (slice_get-set_other links from i more ne) ∙ r_at, has)
  ];
}
  where
    here : slice_get (set links from more) from ≡ Some more
    here = slice_get-set_same links from more inside

pub adds_none : (links : List (SmallVec ℕ)) (to : ℕ) → AddsLinksTo links links [] to
adds_none links to = record {
  count = refl;
  kept = λ i j h. h;
  added = λ i h. absurd (omega (arith, h.1));
  only = λ i j h. inl h;
}

pub adds_more : (old next last : List (SmallVec ℕ)) (from : List ℕ) (i to : ℕ) → AddsLinksTo old next from to → AddsLink next last i to → AddsLinksTo old last (from ++ i ∷ []) to
adds_more old next last from i to so_far one = record {
  count = one.count ∙ so_far.count;
  kept = λ k j h. one.kept k j (so_far.kept k j h);
  added = λ k h. elim (Contains-push_cases from i k h) [
    | inl before ↦ one.kept k to (so_far.added k before)
    | inr same ↦ subst (λ p. HasLink last p to) same one.added
  ];
  only = λ k j h. elim (one.only k j h) [
    | inl before ↦ elim (so_far.only k j before) [
      | inl old ↦ inl old
      | inr new ↦ inr (Contains-append_left from (i ∷ []) k new.0, new.1)
    ]
    | inr same ↦ inr (subst (Contains (from ++ i ∷ [])) (sym same.0) (Contains-push from i), same.1)
  ];
}

-- the links of one more place are turned round
pub turned_more : (links back next : List (SmallVec ℕ)) (ends : SmallVec ℕ) (k m : ℕ) → m ≡ k + 1 → slice_get links k ≡ Some ends → AreTurned links back k → AddsLinksTo back next ends.items k → AreTurned links next m
turned_more links back next ends k m is at so_far adds = record {
  count = adds.count ∙ so_far.count;
  exact = λ i j. (
    λ h. elim (adds.only j i h) [
      | inl before ↦ let old = (so_far.exact i j).0 before in (omega (arith, old.0, is), old.1)
      | inr new ↦ (omega (arith, new.1, is), (ends, subst (λ p. slice_get links p ≡ Some ends) (sym new.1) at, new.0))
    ],
    λ (low, link). elim (cases_eq i k) [
      | inl e ↦
          let same : link.0 ≡ ends = some_is link.0 ends (sym link.1 ∙ ap (slice_get links) e ∙ at) in
          subst (HasLink next j) (sym e) (adds.added j (subst (λ (r : SmallVec ℕ). Contains r.items j) same link.2))
      | inr ne ↦ adds.kept j i ((so_far.exact i j).1 (omega (arith, low, is), link))
    ],
  );
}

pub turned_none : (links back : List (SmallVec ℕ)) → length back ≡ length links → ((i j : ℕ) → HasLink back i j → ⊥) → AreTurned links back 0
turned_none links back count empty = record {
  count = count;
  exact = λ i j. ((λ h. absurd (empty j i h)), (λ (low, link). absurd (omega (arith, low))));
}

pub turned_inside : (links back : List (SmallVec ℕ)) → AreTurned links back (length links) → LeadInside back
turned_inside links back turned i j link = omega (arith, ((turned.exact j i).0 link).0, turned.count)
