-- A list that is sorted, and then has each of several equal elements once.
use Rattle.std.proofs.Common.{◌≡◌, Bool, List, refl, sym, ap, subst, true, false, true≢false}
use Rattle.std.specs.Prelude.{◌↔◌, Contains}
use Rattle.std.specs.declared.cmp.Ordering.{Ordering}
use Rattle.std.specs.declared.cmp.Ordering.TheVariants.{Less, Equal, Greater}
use Rattle.std.specs.Ordering.{is_eq, eq_by_cmp}
use Rattle.std.specs.Cmp.{IsTotalOrder, IsEquivalence, tied_itself}
use Rattle.std.specs.FinMap.{IsAntisymmetric}
use Rattle.std.specs.List.{dedup}
use Rattle.std.specs.List.Sorted.{IsPermutation, IsSorted, IsStrictlySortedBy}
use Rattle.std.proofs.lemmas.List.Kept.{IsStrictlySortedBy-dedup, Contains-dedup, Contains-from_dedup}
use Rattle.std.proofs.lemmas.List.Sorted.{Contains-permutation, IsPermutation-sym}
use Rattle.un_defs.specs.Orders.{rising}
use Rattle.un_defs.proofs.Rising.{rising_unique}
use Rattle.un_defs.proofs.Members.{contains_from_among, among_from_contains}

same_truth : (a b : Bool) → (a ≡ true → b ≡ true) → (b ≡ true → a ≡ true) → a ≡ b
same_truth true b f g = sym (f refl)
same_truth false true f g = g refl
same_truth false false f g = refl

is_equal : (k : Ordering) → is_eq k ≡ true → k ≡ Equal
is_equal Less e = absurd (true≢false (sym e))
is_equal Equal e = refl
is_equal Greater e = absurd (true≢false (sym e))

module _ {A : Type 0} {cmp : A → A → Ordering} (total : IsTotalOrder cmp) (ties : IsAntisymmetric cmp) (same : A → A → Bool) (says : (a b : A) → same a b ≡ true → a ≡ b) (itself : (a : A) → same a a ≡ true) where
  equal : (a b : A) → a ≡ b → same a b ≡ true
  equal a b e = subst (λ c. same a c ≡ true) e (itself a)

  tied : (a b : A) → same a b ≡ eq_by_cmp cmp a b
  tied a b =
      same_truth (same a b) (eq_by_cmp cmp a b) (λ e. subst (λ c. is_eq (cmp a c) ≡ true) (says a b e) (ap is_eq (tied_itself total a)))
      (λ e. equal a b (ties a b (is_equal (cmp a b) e)))

  equivalence : IsEquivalence same
  equivalence = record {
    refl = itself;
    symm = λ a b. same_truth (same a b) (same b a) (λ e. equal b a (sym (says a b e))) (λ e. equal a b (sym (says b a e)));
    congr = λ a b c e. ap (λ d. same d c) (says a b e);
  }

  pub once_sorted : (ys : List A) → IsSorted cmp ys → IsStrictlySortedBy cmp (dedup same ys)
  once_sorted ys sorted = IsStrictlySortedBy-dedup total tied ys sorted

  pub once_same : (xs ys : List A) → IsPermutation xs ys → (x : A) → Contains (dedup same ys) x ↔ Contains xs x
  once_same xs ys moved x = (
    λ h. Contains-permutation ys xs x (IsPermutation-sym xs ys moved) (Contains-from_dedup same ys x h),
    λ h. Contains-dedup equivalence says ys x (Contains-permutation xs ys x moved h),
  )

  pub sorted_once : (xs ys : List A) → IsPermutation xs ys → IsSorted cmp ys → dedup same ys ≡ rising cmp xs
  sorted_once xs ys moved sorted =
      rising_unique total xs (dedup same ys) (λ a b _ _ e. ties a b e) (once_sorted ys sorted)
      (λ x h. among_from_contains xs x ((once_same xs ys moved x).0 (contains_from_among (dedup same ys) x h)))
      (λ x h. among_from_contains (dedup same ys) x ((once_same xs ys moved x).1 (contains_from_among xs x h)))
