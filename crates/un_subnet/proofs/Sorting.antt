-- A list that is sorted, and then has each of several equal elements once, is the rising list.
use Rattle.std.proofs.Common.{◌≡◌, Bool, List, refl, sym, ap, subst, true, true≢false}
use Rattle.std.specs.Bool.{Decides}
use Rattle.std.specs.declared.cmp.Ordering.{Ordering}
use Rattle.std.specs.declared.cmp.Ordering.TheVariants.{Less, Equal, Greater}
use Rattle.std.specs.Ordering.{is_eq, eq_by_cmp}
use Rattle.std.specs.Cmp.{IsTotalOrder, IsEquivalence, tied_itself}
use Rattle.std.specs.FinMap.{IsAntisymmetric}
use Rattle.std.specs.List.{dedup}
use Rattle.std.specs.List.Sorted.{IsPermutation, IsSorted, IsStrictlySortedBy}
use Rattle.std.proofs.lemmas.List.Kept.{IsStrictlySortedBy-dedup, Contains-dedup, Contains-from_dedup}
use Rattle.std.proofs.lemmas.List.Sorted.{Contains-permutation, IsPermutation-sym}
use Rattle.un_defs.specs.Orders.{rising}
use Rattle.un_defs.proofs.Rising.{Among, rising_unique}
use Rattle.un_defs.proofs.Members.{contains_from_among, among_from_contains}
use Rattle.un_subnet.proofs.Either.{same_truth}

is_equal : (k : Ordering) → is_eq k ≡ true → k ≡ Equal
is_equal Less e = absurd (true≢false (sym e))
is_equal Equal e = refl
is_equal Greater e = absurd (true≢false (sym e))

module _ {A : Type 0} {cmp : A → A → Ordering} (total : IsTotalOrder cmp) (ties : IsAntisymmetric cmp) (same : A → A → Bool) (decides : (a b : A) → Decides (same a b) (a ≡ b)) where
  tied : (a b : A) → same a b ≡ eq_by_cmp cmp a b
  tied a b =
      same_truth (same a b) (eq_by_cmp cmp a b) (λ e. subst (λ c. is_eq (cmp a c) ≡ true) ((decides a b).0 e) (ap is_eq (tied_itself total a)))
      (λ e. (decides a b).1 (ties a b (is_equal (cmp a b) e)))

  equivalence : IsEquivalence same
  equivalence = record {
    refl = λ a. (decides a a).1 refl;
    symm = λ a b. same_truth (same a b) (same b a) (λ e. (decides b a).1 (sym ((decides a b).0 e))) (λ e. (decides a b).1 (sym ((decides b a).0 e)));
    congr = λ a b c e. ap (λ d. same d c) ((decides a b).0 e);
  }

  pub sorted_once : (xs ys zs : List A) → IsPermutation xs ys → IsSorted cmp ys → zs ≡ dedup same ys → zs ≡ rising cmp xs
  sorted_once xs ys zs moved sorted kept =
      rising_unique total xs zs (λ a b _ _ e. ties a b e) (subst (IsStrictlySortedBy cmp) (sym kept) (IsStrictlySortedBy-dedup total tied ys sorted))
      (λ x h. among_from_contains xs x (Contains-permutation ys xs x (IsPermutation-sym xs ys moved)
      (Contains-from_dedup same ys x (contains_from_among (dedup same ys) x (subst (λ l. Among l x) kept h)))))
      (λ x h. subst (λ l. Among l x) (sym kept) (among_from_contains (dedup same ys) x
      (Contains-dedup equivalence (λ a b. (decides a b).0) ys x (Contains-permutation xs ys x moved (contains_from_among xs x h)))))
