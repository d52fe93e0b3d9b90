-- How places are found.
use Rattle.std.proofs.Common.{◌≡◌, ◌≢◌, ◌↔◌, ℕ, zero, suc, ◌+◌, ◌<◌, ◌≤◌, inl, inr, Bool, true, false, List, [], ◌∷◌, ◌++◌, length, set, replicate, Some, refl, sym, ap, subst, ◌∙◌, append_assoc, append-nil, arith, true≢false}
use Rattle.std.specs.Prelude.{slice_get, Contains}
use Rattle.std.proofs.lemmas.Bool.{cases_eq}
use Rattle.std.proofs.lemmas.List.{length-set, length-replicate, get_or-set_same, get_or-set_other}
use Rattle.std.proofs.lemmas.List.Elements.{Contains-append_left, Contains-push, Contains-push_cases}
use Rattle.std.proofs.lemmas.Option.{slice_get_within}
use Rattle.smallvec.specs.SmallVec.{SmallVec}
use Rattle.un_defs.proofs.Members.{contains_from_among, among_from_contains}
use Rattle.un_isolate.specs.declared.spread.Found.{Found}
use Rattle.un_isolate.specs.Spread.{mark_at, AreReached, AreListed, Adds, IsSpread}
use Rattle.un_isolate.proofs.Places.{place_of_among, among_place}

pub no_mark : (n i : ℕ) → mark_at (replicate n false) i ≡ false
no_mark zero i = refl
no_mark (suc n) zero = refl
no_mark (suc n) (suc i) = no_mark n i

pub count_new : (marks : List Bool) (n : ℕ) → marks ≡ replicate n false → length marks ≡ n
count_new marks n e = ap length e ∙ length-replicate n false

-- nothing is found at first
pub none_listed : (marks : List Bool) (order : List ℕ) (n : ℕ) → marks ≡ replicate n false → order ≡ [] → AreListed marks order
none_listed marks order n none empty = record {
  marked = λ i h. absurd (omega (arith, h.1, ap length empty));
  listed = λ i e. absurd (true≢false (sym e ∙ ap (λ l. mark_at l i) none ∙ no_mark n i));
}

pub adds_nothing : (found : Found) → AreListed found.marks.items found.order.items → Adds found found []
adds_nothing found listed = record {
  count = refl;
  more = [];
  order = sym (append-nil found.order.items);
  listed = listed;
  kept = λ i e. e;
  added = λ i h. absurd (omega (arith, h.1));
  only = λ i e. inl e;
}

-- a place that was found already
pub adds_found : (found : Found) (p : ℕ) → AreListed found.marks.items found.order.items → mark_at found.marks.items p ≡ true → Adds found found (p ∷ [])
adds_found found p listed is = record {
  count = refl;
  more = [];
  order = sym (append-nil found.order.items);
  listed = listed;
  kept = λ i e. e;
  added = λ i h. elim (among_from_contains (p ∷ []) i h) [ inl e ↦ subst (λ k. mark_at found.marks.items k ≡ true) e is | inr n ↦ absurd n ];
  only = λ i e. inl e;
}

-- a place that was not
pub adds_new : (old new : Found) (p : ℕ) → AreListed old.marks.items old.order.items → p < length old.marks.items → new.marks.items ≡ set old.marks.items p true → new.order.items ≡ old.order.items ++ p ∷ [] → Adds old new (p ∷ [])
adds_new old new p listed inside marks order = record {
  count = ap length marks ∙ length-set old.marks.items p true;
  more = p ∷ [];
  order = order;
  listed = record {
    marked = λ i h. elim (Contains-push_cases old.order.items p i (subst (λ l. Contains l i) order h)) [
      | inl before ↦ kept i (listed.marked i before)
      | inr same ↦ subst (λ k. mark_at new.marks.items k ≡ true) same here
    ];
    listed = λ i e. subst (λ l. Contains l i) (sym order) (elim (cases_eq i p) [
      | inl same ↦ subst (Contains (old.order.items ++ p ∷ [])) (sym same) (Contains-push old.order.items p)
      | inr ne ↦ Contains-append_left old.order.items (p ∷ []) i (listed.listed i (sym (other i ne) ∙ e))
    ]);
  };
  kept = kept;
  added = λ i h. elim (among_from_contains (p ∷ []) i h) [ inl e ↦ subst (λ k. mark_at new.marks.items k ≡ true) e here | inr n ↦ absurd n ];
  only = λ i e. elim (cases_eq i p) [
    | inl same ↦ inr (contains_from_among (p ∷ []) i (inl (sym same)))
    | inr ne ↦ inl (sym (other i ne) ∙ e)
  ];
}
  where
    here : mark_at new.marks.items p ≡ true
    here = ap (λ l. mark_at l p) marks ∙ get_or-set_same old.marks.items p true false inside

    other : (i : ℕ) → i ≢ p → mark_at new.marks.items i ≡ mark_at old.marks.items i
    other i ne = ap (λ l. mark_at l i) marks ∙ get_or-set_other old.marks.items p i true false ne

    kept : (i : ℕ) → mark_at old.marks.items i ≡ true → mark_at new.marks.items i ≡ true
    kept i e = elim (cases_eq i p) [
      | inl same ↦ subst (λ k. mark_at new.marks.items k ≡ true) (sym same) here
      | inr ne ↦ other i ne ∙ e
    ]

pub adds_then : (a b c : Found) (ps : List ℕ) (p : ℕ) → Adds a b ps → Adds b c (p ∷ []) → Adds a c (ps ++ p ∷ [])
adds_then a b c ps p one two = record {
  count = two.count ∙ one.count;
  more = one.more ++ two.more;
  order = two.order ∙ ap (λ l. l ++ two.more) one.order ∙ append_assoc a.order.items one.more two.more;
  listed = two.listed;
  kept = λ i e. two.kept i (one.kept i e);
  added = λ i h. elim (Contains-push_cases ps p i h) [
    | inl before ↦ two.kept i (one.added i before)
    | inr same ↦ two.added i (contains_from_among (p ∷ []) i (inl same))
  ];
  only = λ i e. elim (two.only i e) [
    | inl before ↦ elim (one.only i before) [
      | inl old ↦ inl old
      | inr new ↦ inr (Contains-append_left ps (p ∷ []) i new)
    ]
    | inr same ↦ elim (among_from_contains (p ∷ []) i same) [
      | inl is ↦ inr (subst (Contains (ps ++ p ∷ [])) is (Contains-push ps p))
      | inr n ↦ absurd n
    ]
  ];
}

slice_get-append : {X : Type 0} (xs ys : List X) (i : ℕ) → i < length xs → slice_get (xs ++ ys) i ≡ slice_get xs i
slice_get-append [] ys i h = absurd (omega arith)
slice_get-append (x ∷ xs) ys zero h = refl
slice_get-append (x ∷ xs) ys (suc i) h = slice_get-append xs ys i (omega arith)

some_is : {X : Type 0} (x y : X) → Some x ≡ Some y → x ≡ y
some_is x y e = cc

pub mark_inside : (marks : List Bool) (i : ℕ) → mark_at marks i ≡ true → i < length marks
mark_inside [] i e = absurd (true≢false (sym e))
mark_inside (m ∷ marks) zero e = omega arith
mark_inside (m ∷ marks) (suc i) e = omega (arith, mark_inside marks i e)

module _ (links : List (SmallVec ℕ)) (starts closed : List Bool) where
  -- the starts are found
  pub spread_begun : (old new : Found) (places : List ℕ) → Adds old new places → ((i : ℕ) → mark_at old.marks.items i ≡ true → ⊥) → ((i : ℕ) → Contains places i → mark_at starts i ≡ true)
      → ((i : ℕ) → mark_at starts i ≡ true → Contains places i) → length old.marks.items ≡ length links → IsSpread links starts closed new 0
  spread_begun old new places adds none only all count = record {
    count = adds.count ∙ count;
    listed = adds.listed;
    begun = λ i e. adds.added i (all i e);
    onward = λ p i j low. absurd (omega (arith, low));
    least = λ test goes i e. elim (adds.only i e) [ inl old ↦ absurd (none i old) | inr new ↦ goes.begun i (only i new) ];
  }

  -- one more place has been gone on from, to what it has links to
  pub spread_on : (old new : Found) (k m p : ℕ) (ends : SmallVec ℕ) → m ≡ k + 1 → slice_get old.order.items k ≡ Some p → mark_at closed p ≡ false → slice_get links p ≡ Some ends
      → IsSpread links starts closed old k → Adds old new ends.items → k < length old.order.items → IsSpread links starts closed new m
  spread_on old new k m p ends is at opened row s adds inside = record {
    count = adds.count ∙ s.count;
    listed = adds.listed;
    begun = λ i e. adds.kept i (s.begun i e);
    onward = λ q i j low here free link.
        let before : slice_get old.order.items q ≡ Some i = sym (slice_get-append old.order.items adds.more q (omega (arith, low, is, inside))) ∙ ap (λ l. slice_get l q) (sym adds.order) ∙ here in
        elim (cases_eq q k) [
          | inl same ↦
              let node : p ≡ i = some_is p i (sym at ∙ ap (slice_get old.order.items) (sym same) ∙ before) in
              let ends_are : link.0 ≡ ends = some_is link.0 ends (sym link.1 ∙ ap (slice_get links) (sym node) ∙ row) in
              adds.added j (subst (λ (r : SmallVec ℕ). Contains r.items j) ends_are link.2)
          | inr ne ↦ adds.kept j (s.onward q i j (omega (arith, low, is)) before free link)
        ];
    least = λ test goes i e. elim (adds.only i e) [
      | inl found ↦ s.least test goes i found
      | inr new ↦ goes.onward p i (s.least test goes p (s.listed.marked p (contains_at old.order.items k p at))) opened (ends, row, new)
    ];
  }
    where
      contains_at : (xs : List ℕ) (q x : ℕ) → slice_get xs q ≡ Some x → Contains xs x
      contains_at xs q x e = contains_from_among xs x (among_place xs q x e)

  -- a closed place is not gone on from
  pub spread_past : (found : Found) (k m p : ℕ) → m ≡ k + 1 → slice_get found.order.items k ≡ Some p → mark_at closed p ≡ true → IsSpread links starts closed found k → IsSpread links starts closed found m
  spread_past found k m p is at shut s = record {
    count = s.count;
    listed = s.listed;
    begun = s.begun;
    onward = λ q i j low here free link. elim (cases_eq q k) [
      | inl same ↦
          let node : p ≡ i = some_is p i (sym at ∙ ap (slice_get found.order.items) (sym same) ∙ here) in
          absurd (true≢false (sym shut ∙ ap (mark_at closed) node ∙ free))
      | inr ne ↦ s.onward q i j (omega (arith, low, is)) here free link
    ];
    least = s.least;
  }

  -- a place that is found is one of those with links
  pub spread_inside : (found : Found) (k q p : ℕ) → IsSpread links starts closed found k → slice_get found.order.items q ≡ Some p → p < length links
  spread_inside found k q p s at =
      let below = mark_inside found.marks.items p (s.listed.marked p (contains_from_among found.order.items p (among_place found.order.items q p at))) in
      omega (arith, below, s.count)

  pub spread_done : (found : Found) (k : ℕ) → length found.order.items ≤ k → IsSpread links starts closed found k → AreReached links starts closed found.marks.items
  spread_done found k all s = record {
    count = s.count;
    goes_on = record {
      begun = s.begun;
      onward = λ i j e free link.
          let place = place_of_among found.order.items i (among_from_contains found.order.items i (s.listed.listed i e)) in
          s.onward place.0 i j (omega (arith, all, slice_get_within found.order.items place.0 i place.1)) place.1 free link;
    };
    least = s.least;
  }

-- ---- marked places

-- the list has exactly the marked places below one
abbrev pub AreMarkedBelow : List Bool → ℕ → List ℕ → Type 0
AreMarkedBelow marks k places = (i : ℕ) → Contains places i ↔ ((i < k) × (mark_at marks i ≡ true))

pub marked_with : (marks : List Bool) (places : List ℕ) (k m : ℕ) → m ≡ k + 1 → mark_at marks k ≡ true → AreMarkedBelow marks k places → AreMarkedBelow marks m (places ++ k ∷ [])
marked_with marks places k m is e so_far i = (
  λ h. elim (Contains-push_cases places k i h) [
    | inl before ↦ let old = (so_far i).0 before in (omega (arith, old.0, is), old.1)
    | inr same ↦ (omega (arith, same, is), subst (λ j. mark_at marks j ≡ true) same e)
  ],
  λ (low, on). elim (cases_eq i k) [
    | inl same ↦ subst (Contains (places ++ k ∷ [])) (sym same) (Contains-push places k)
    | inr ne ↦ Contains-append_left places (k ∷ []) i ((so_far i).1 (omega (arith, low, is), on))
  ],
)

pub marked_without : (marks : List Bool) (places : List ℕ) (k m : ℕ) → m ≡ k + 1 → mark_at marks k ≡ false → AreMarkedBelow marks k places → AreMarkedBelow marks m places
marked_without marks places k m is e so_far i = (
  λ h. let old = (so_far i).0 h in (omega (arith, old.0, is), old.1),
  λ (low, on). elim (cases_eq i k) [
    | inl same ↦ absurd (true≢false (sym on ∙ ap (mark_at marks) same ∙ e))
    | inr ne ↦ (so_far i).1 (omega (arith, low, is), on)
  ],
)

pub marked_all : (marks : List Bool) (places : List ℕ) (k : ℕ) → length marks ≤ k → AreMarkedBelow marks k places → (i : ℕ) → Contains places i ↔ (mark_at marks i ≡ true)
marked_all marks places k all so_far i = ((λ h. ((so_far i).0 h).1), (λ on. (so_far i).1 (omega (arith, all, mark_inside marks i on), on)))
