-- Keys that compare by a feature and then by a number, and the run of the pairs of one feature.
use Rattle.std.proofs.Common.{◌≡◌, ℕ, ◌<◌, Bool, true, false, not, ◌&&◌, ◌==◌, nat_lt, List, [], ◌∷◌, cond, refl, sym, ◌∙◌, ap, arith}
use Rattle.std.proofs.lemmas.Bool.Decides.{nat_tests}
use Rattle.std.proofs.lemmas.Cmp.{ranked}
use Rattle.std.proofs.lemmas.List.Sums.{take_while-cons}
use Rattle.std.specs.declared.cmp.Ordering.{Ordering}
use Rattle.std.specs.declared.cmp.Ordering.TheVariants.{Less, Equal, Greater}
use Rattle.std.specs.declared.ops.Bound.TheVariants.{Included}
use Rattle.std.specs.Ordering.{nat_cmp, is_eq, is_lt, ordering_then}
use Rattle.std.specs.Cmp.{IsTotalOrder, on_total, then_total, nat_cmp_total}
use Rattle.std.specs.List.{filter, take_while}
use Rattle.std.specs.List.Sorted.{IsStrictlySortedBy}
use Rattle.un_pages.specs.Pairs.{IsOrdered, IsAbove, from_on}

pub nat_tie : (a b : ℕ) → nat_cmp a b ≡ Equal → a ≡ b
nat_tie a b e = ranked a b Equal (sym e)

pub nat_same : (a b : ℕ) → is_eq (nat_cmp a b) ≡ (b == a)
nat_same a b = grind (arith, nat_tests)

both_tie : (r s : Ordering) → ordering_then r s ≡ Equal → (r ≡ Equal) × (s ≡ Equal)
both_tie Less s e = cc
both_tie Equal s e = (refl, e)
both_tie Greater s e = cc

both_eq : (r s : Ordering) → is_eq (ordering_then r s) ≡ (is_eq r && is_eq s)
both_eq Less s = refl
both_eq Equal s = refl
both_eq Greater s = refl

module _ {K : Type 0} (feature number : K → ℕ) where
  abbrev pub pair_cmp : K → K → Ordering
  pair_cmp a b = ordering_then (nat_cmp (feature a) (feature b)) (nat_cmp (number a) (number b))

  pub pair_total : IsTotalOrder pair_cmp
  pair_total = then_total (on_total feature nat_cmp_total) (on_total number nat_cmp_total)

  pub pair_tie : (a b : K) → pair_cmp a b ≡ Equal → (feature a ≡ feature b) × (number a ≡ number b)
  pair_tie a b e =
      let parts = both_tie (nat_cmp (feature a) (feature b)) (nat_cmp (number a) (number b)) e in
      (nat_tie (feature a) (feature b) parts.0, nat_tie (number a) (number b) parts.1)

  pub pair_same : (a b : K) → is_eq (pair_cmp a b) ≡ ((feature b == feature a) && (number b == number a))
  pair_same a b =
      both_eq (nat_cmp (feature a) (feature b)) (nat_cmp (number a) (number b))
      ∙ ap (λ t. t && is_eq (nat_cmp (number a) (number b))) (nat_same (feature a) (feature b))
      ∙ ap (λ t. (feature b == feature a) && t) (nat_same (number a) (number b))

  -- of two keys of one feature, the greater has the greater number
  pub pair_above : (a b : K) → pair_cmp a b ≡ Less → feature b ≡ feature a → number a < number b
  pair_above a b e same = by (nat_cmp (feature a) (feature b)) refl e
    where
      by : (r : Ordering) → nat_cmp (feature a) (feature b) ≡ r → ordering_then r (nat_cmp (number a) (number b)) ≡ Less → number a < number b
      by Less c e = let below : feature a < feature b = ranked (feature a) (feature b) Less (sym c) in absurd (omega arith)
      by Equal c e = ranked (number a) (number b) Less (sym e)
      by Greater c e = cc

  -- the feature of a greater key is no smaller
  feature_above : (a b : K) → pair_cmp a b ≡ Less → (feature b < feature a) → ⊥
  feature_above a b e h = by (nat_cmp (feature a) (feature b)) refl e
    where
      by : (r : Ordering) → nat_cmp (feature a) (feature b) ≡ r → ordering_then r (nat_cmp (number a) (number b)) ≡ Less → ⊥
      by Less c e = let below : feature a < feature b = ranked (feature a) (feature b) Less (sym c) in omega arith
      by Equal c e = let one : feature a ≡ feature b = nat_tie (feature a) (feature b) c in omega arith
      by Greater c e = cc

  -- a key is before the first one of a feature where its own feature is smaller
  before_is : (x first : K) → number first ≡ 0 → is_lt (pair_cmp x first) ≡ nat_lt (feature x) (feature first)
  before_is x first zeroth = by (nat_cmp (feature x) (feature first)) refl
    where
      by : (r : Ordering) → nat_cmp (feature x) (feature first) ≡ r → is_lt (ordering_then r (nat_cmp (number x) (number first))) ≡ nat_lt (feature x) (feature first)
      by Less c = grind (arith, nat_tests)
      by Equal c = let least : is_lt (nat_cmp (number x) (number first)) ≡ false = grind (arith, nat_tests) in let over : nat_lt (feature x) (feature first) ≡ false = grind (arith, nat_tests) in least ∙ sym over
      by Greater c = grind (arith, nat_tests)

  module _ {V : Type 0} (f : ℕ) where
    -- no pair of a feature stands above one of a greater feature
    none_above : (x : K) (ps : List (K × V)) → f < feature x → IsAbove pair_cmp x ps → filter (λ p. feature p.0 == f) ps ≡ []
    none_above x [] h a = refl
    none_above x (p ∷ ps) h a = by (feature p.0 == f) refl (none_above x ps h a.1)
      where
        by : (t : Bool) → (feature p.0 == f) ≡ t → filter (λ p. feature p.0 == f) ps ≡ [] → cond t (p ∷ filter (λ p. feature p.0 == f) ps) (filter (λ p. feature p.0 == f) ps) ≡ []
        by true t ih = let one : feature p.0 ≡ f = grind (arith, nat_tests) in absurd (feature_above x p.0 a.0 (omega arith))
        by false t ih = ih

    -- from the first key of a feature on, its pairs stand before all others
    pub run_is : (first : K) → feature first ≡ f → number first ≡ 0 → (ps : List (K × V)) → IsOrdered pair_cmp ps
        → take_while (λ p. feature p.0 == f) (from_on pair_cmp (Included first) ps) ≡ filter (λ p. feature p.0 == f) ps
    unfolding IsStrictlySortedBy
    run_is first own zeroth [] s = refl
    run_is first own zeroth (p ∷ ps) s = by (nat_cmp (feature p.0) f) refl (run_is first own zeroth ps s.1)
      where
        reached : is_lt (pair_cmp p.0 first) ≡ nat_lt (feature p.0) f
        reached = before_is p.0 first zeroth ∙ ap (nat_lt (feature p.0)) own

        begun : (t : Bool) → nat_lt (feature p.0) f ≡ t → from_on pair_cmp (Included first) (p ∷ ps) ≡ cond (not t) (p ∷ from_on pair_cmp (Included first) ps) (from_on pair_cmp (Included first) ps)
        begun t e = ap (λ b. cond (not b) (p ∷ from_on pair_cmp (Included first) ps) (from_on pair_cmp (Included first) ps)) (reached ∙ e)

        by : (r : Ordering) → nat_cmp (feature p.0) f ≡ r
            → take_while (λ p. feature p.0 == f) (from_on pair_cmp (Included first) ps) ≡ filter (λ p. feature p.0 == f) ps
            → take_while (λ p. feature p.0 == f) (from_on pair_cmp (Included first) (p ∷ ps)) ≡ filter (λ p. feature p.0 == f) (p ∷ ps)
        by Less c ih =
            let below : nat_lt (feature p.0) f ≡ true = grind (arith, nat_tests) in
            let other : (feature p.0 == f) ≡ false = grind (arith, nat_tests) in
            ap (take_while (λ p. feature p.0 == f)) (begun true below) ∙ ih
            ∙ sym (ap (λ t. cond t (p ∷ filter (λ p. feature p.0 == f) ps) (filter (λ p. feature p.0 == f) ps)) other)
        by Equal c ih =
            let below : nat_lt (feature p.0) f ≡ false = grind (arith, nat_tests) in
            let here : (feature p.0 == f) ≡ true = grind (arith, nat_tests) in
            ap (take_while (λ p. feature p.0 == f)) (begun false below)
            ∙ take_while-cons (λ p. feature p.0 == f) p (from_on pair_cmp (Included first) ps)
            ∙ ap (λ t. cond t (p ∷ take_while (λ p. feature p.0 == f) (from_on pair_cmp (Included first) ps)) []) here
            ∙ ap (λ l. p ∷ l) ih
            ∙ sym (ap (λ t. cond t (p ∷ filter (λ p. feature p.0 == f) ps) (filter (λ p. feature p.0 == f) ps)) here)
        by Greater c ih =
            let below : nat_lt (feature p.0) f ≡ false = grind (arith, nat_tests) in
            let other : (feature p.0 == f) ≡ false = grind (arith, nat_tests) in
            let over : f < feature p.0 = ranked (feature p.0) f Greater (sym c) in
            ap (take_while (λ p. feature p.0 == f)) (begun false below)
            ∙ take_while-cons (λ p. feature p.0 == f) p (from_on pair_cmp (Included first) ps)
            ∙ ap (λ t. cond t (p ∷ take_while (λ p. feature p.0 == f) (from_on pair_cmp (Included first) ps)) []) other
            ∙ sym (none_above p.0 ps over s.0)
            ∙ sym (ap (λ t. cond t (p ∷ filter (λ p. feature p.0 == f) ps) (filter (λ p. feature p.0 == f) ps)) other)

    -- the first pair of the run, if it is one of the feature
    module _ (first : K) (own : feature first ≡ f) (zeroth : number first ≡ 0) (ps rest : List (K × V)) (s : IsOrdered pair_cmp ps) (is : rest ≡ from_on pair_cmp (Included first) ps) where
      pub run_from : take_while (λ p. feature p.0 == f) rest ≡ filter (λ p. feature p.0 == f) ps
      run_from = ap (take_while (λ p. feature p.0 == f)) is ∙ run_is first own zeroth ps s

      pub run_none : rest ≡ [] → filter (λ p. feature p.0 == f) ps ≡ []
      run_none e = sym run_from ∙ ap (take_while (λ p. feature p.0 == f)) e

      pub run_other : (p : K × V) (more : List (K × V)) → rest ≡ p ∷ more → (feature p.0 == f) ≡ false → filter (λ p. feature p.0 == f) ps ≡ []
      run_other p more e t =
          sym run_from ∙ ap (take_while (λ p. feature p.0 == f)) e ∙ take_while-cons (λ p. feature p.0 == f) p more
          ∙ ap (λ b. cond b (p ∷ take_while (λ p. feature p.0 == f) more) []) t

      pub run_begun : (p : K × V) (more : List (K × V)) → rest ≡ p ∷ more → (feature p.0 == f) ≡ true
          → filter (λ p. feature p.0 == f) ps ≡ p ∷ take_while (λ p. feature p.0 == f) more
      run_begun p more e t =
          sym run_from ∙ ap (take_while (λ p. feature p.0 == f)) e ∙ take_while-cons (λ p. feature p.0 == f) p more
          ∙ ap (λ b. cond b (p ∷ take_while (λ p. feature p.0 == f) more) []) t
