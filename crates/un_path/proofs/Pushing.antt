-- Lists of free places, and hops that are pushed one by one.
use Rattle.std.proofs.Common.{◌≡◌, ℕ, zero, suc, ◌+◌, ◌<◌, List, [], ◌∷◌, ◌++◌, length, Option, Some, None, ◌⊎◌, inl, inr, refl, sym, ap, subst, arith}
use Rattle.std.specs.Prelude.{slice_get}
use Rattle.std.specs.declared.cmp.Reverse.{Reverse}
use Rattle.std.specs.List.Sorted.{IsPermutation}
use Rattle.std.proofs.lemmas.List.Elements.{Contains-append_left, Contains-push, Contains-push_cases}
use Rattle.std.proofs.lemmas.List.Sorted.{Contains-permutation, IsPermutation-sym}
use Rattle.un_defs.proofs.LinkCases.{some_same}
use Rattle.un_defs.proofs.Members.{contains_from_among, among_from_contains}
use Rattle.un_path.specs.declared.hops.Hop.{Hop}
use Rattle.un_path.specs.declared.search.Arrival.{Arrival}
use Rattle.un_path.specs.declared.search.Coming.{Coming}
use Rattle.un_path.specs.Search.{IsPendingIn, IsSettledAt, free_count, coming_by, PushesHops}

pub one_more_free : (arrivals : List (Option Arrival)) → free_count (arrivals ++ None ∷ []) ≡ free_count arrivals + 1
one_more_free [] = refl
one_more_free (None ∷ rest) = (let e = one_more_free rest in omega arith)
one_more_free (Some a ∷ rest) = one_more_free rest

pub still_free : (arrivals : List (Option Arrival)) → ((i : ℕ) → IsSettledAt arrivals i → ⊥) → (i : ℕ) → IsSettledAt (arrivals ++ None ∷ []) i → ⊥
still_free [] none zero (a, has) = (let clash : None ≡ Some a = some_same None (Some a) has in cc)
still_free [] none (suc i) (a, has) = absurd (cc)
still_free (o ∷ rest) none zero (a, has) = none zero (a, has)
still_free (o ∷ rest) none (suc i) (a, has) = still_free rest (λ k h. none (suc k) h) i (a, has)

pub free_at : (arrivals : List (Option Arrival)) (i : ℕ) → i < length arrivals → ((k : ℕ) → IsSettledAt arrivals k → ⊥) → slice_get arrivals i ≡ Some None
free_at [] i h none = absurd (omega arith)
free_at (None ∷ rest) zero h none = refl
free_at (Some a ∷ rest) zero h none = absurd (none zero (a, refl))
free_at (o ∷ rest) (suc i) h none = free_at rest i (omega arith) (λ k g. none (suc k) g)

-- what stands in a heap after a push, and before a pop
pub in_pushed : (old new : List (Reverse Coming)) (x e : Coming) → IsPermutation (record { 0 = x } ∷ old) new → IsPendingIn new e → IsPendingIn old e ⊎ (e ≡ x)
in_pushed old new x e same pending =
    let all = among_from_contains (record { 0 = x } ∷ old) (record { 0 = e }) (Contains-permutation new (record { 0 = x } ∷ old) (record { 0 = e }) (IsPermutation-sym _ _ same) pending) in
    elim all [
      | inl here ↦ inr (ap (λ (r : Reverse Coming). r.0) (sym here))
      | inr rest ↦ inl (contains_from_among old (record { 0 = e }) rest)
    ]

pub pushed_in : (old new : List (Reverse Coming)) (x e : Coming) → IsPermutation (record { 0 = x } ∷ old) new → IsPendingIn old e ⊎ (e ≡ x) → IsPendingIn new e
pushed_in old new x e same where_it_is =
    Contains-permutation (record { 0 = x } ∷ old) new (record { 0 = e }) same (contains_from_among (record { 0 = x } ∷ old) (record { 0 = e }) (elim where_it_is [
      | inl rest ↦ inr (among_from_contains old (record { 0 = e }) rest)
      | inr is ↦ inl (ap (λ y. record { 0 = y }) (sym is))
    ]))

module _ (arrivals : List (Option Arrival)) (all : List Hop) (i : ℕ) (a : Arrival) (first old : List (Reverse Coming)) (so_far : PushesHops arrivals all i a first old) (h : Hop) where
  pub pushes_one : (new : List (Reverse Coming)) → h.cost < 18446744073709551616 → IsPermutation (record { 0 = coming_by i a h } ∷ old) new → PushesHops arrivals (all ++ h ∷ []) i a first new
  pushes_one new slight same = record {
    kept = λ e pending. pushed_in old new (coming_by i a h) e same (inl (so_far.kept e pending));
    only = λ e pending. elim (in_pushed old new (coming_by i a h) e same pending) [
      | inl before ↦ elim (so_far.only e before) [
        | inl was ↦ inl was
        | inr (k, among, is, slight) ↦ inr (k, Contains-append_left all (h ∷ []) k among, is, slight)
      ]
      | inr is ↦ inr (h, Contains-push all h, is, slight)
    ];
    whole = λ k among. elim (Contains-push_cases all h k among) [
      | inl before ↦ elim (so_far.whole k before) [
        | inl settled ↦ inl settled
        | inr pending ↦ inr (pushed_in old new (coming_by i a h) (coming_by i a k) same (inl pending))
      ]
      | inr is ↦ inr (pushed_in old new (coming_by i a h) (coming_by i a k) same (inr (ap (coming_by i a) (sym is))))
    ];
  }

  pub pushes_none : IsSettledAt arrivals h.to → PushesHops arrivals (all ++ h ∷ []) i a first old
  pushes_none settled = record {
    kept = so_far.kept;
    only = λ e pending. elim (so_far.only e pending) [
      | inl was ↦ inl was
      | inr (k, among, is, slight) ↦ inr (k, Contains-append_left all (h ∷ []) k among, is, slight)
    ];
    whole = λ k among. elim (Contains-push_cases all h k among) [
      | inl before ↦ so_far.whole k before
      | inr is ↦ inl (subst (λ (x : Hop). IsSettledAt arrivals x.to) is settled)
    ];
  }
