-- What a binary search finds in a list in order.
use Rattle.std.proofs.Common.{◌≡◌, ℕ, Bool, true, false, zero, suc, ◌<◌, List, [], ◌∷◌, length, get_or, Result, Ok, Err, inl, inr, refl, sym, ap, subst, ◌∙◌, arith}
use Rattle.std.specs.Result.{is_ok}
use Rattle.std.specs.declared.cmp.Ordering.{Ordering}
use Rattle.std.specs.declared.cmp.Ordering.TheVariants.{Less, Equal, Greater}
use Rattle.std.specs.Cmp.{IsTotalOrder}
use Rattle.std.specs.FinMap.{IsAntisymmetric}
use Rattle.std.specs.List.{list_any}
use Rattle.std.specs.Ordering.{is_lt, ordering_reverse}
use Rattle.std.specs.List.Sorted.{IsStrictlySortedBy, IsSortedBy, IsBinarySearchResult, IsSearchInRange}
use Rattle.std.proofs.lemmas.Bool.{cases_lt}
use Rattle.std.proofs.lemmas.Cmp.{tied_itself}
use Rattle.std.proofs.lemmas.List.Sorted.{searchable_from_sorted}
use native.Mathlib.Numerals.{unary_clauses}
use Rattle.un_defs.proofs.Rising.{Among}
use Rattle.un_defs.proofs.Members.{contains_from_among, among_from_contains, among_from_list_any, list_any_from_among}

module _ {A : Type 0} {cmp : A → A → Ordering} (total : IsTotalOrder cmp) where
  adjacent : (xs : List A) → IsStrictlySortedBy cmp xs → IsSortedBy (λ a b. is_lt (cmp a b)) xs
  unfolding IsStrictlySortedBy
  adjacent [] s k d low high = absurd (omega arith)
  adjacent (x ∷ []) s k d low high = absurd (omega arith)
  adjacent (x ∷ y ∷ l) s zero d low high = ap is_lt (total.antisymm y x ∙ ap ordering_reverse s.0.0)
  adjacent (x ∷ y ∷ l) s (suc k) d low high =
      let h = simp unary_clauses at (adjacent (y ∷ l) s.1 k d (omega arith) (omega arith)) in
      simp unary_clauses h

get_or_any : {A : Type 0} (xs : List A) (i : ℕ) → i < length xs → (x : A) × (x ≡ get_or xs i x)
get_or_any [] i h = absurd (omega arith)
get_or_any (y ∷ l) zero h = (y, refl)
get_or_any (y ∷ l) (suc i) h = get_or_any l i (omega arith)

module _ {A : Type 0} (cmp : A → A → Ordering) (total : IsTotalOrder cmp) (ties : IsAntisymmetric cmp)
    (same : A → A → Bool) (says : (a b : A) → same a b ≡ true → a ≡ b) (itself : (a : A) → same a a ≡ true) where
  -- it finds an element exactly where the list has it
  pub searched : (xs : List A) → IsStrictlySortedBy cmp xs → (x : A) (r : Result ℕ ℕ) → IsSearchInRange r (length xs) → IsBinarySearchResult (λ y. cmp y x) xs r
      → is_ok r ≡ list_any (same x) xs
  searched xs sorted x (Ok i) range result =
      let y = get_or_any xs i range in
      let e : cmp y.0 x ≡ Equal = subst (λ z. cmp z x ≡ Equal) (sym y.1) (result y.0) in
      let one : y.0 ≡ x = ties y.0 x e in
      sym (list_any_from_among (same x) xs x (subst (Among xs) one (among_from_contains xs y.0 (i, range, sym y.1))) (itself x))
  searched xs sorted x (Err i) range result = go (list_any (same x) xs) refl
    where
      not_there : list_any (same x) xs ≡ true → ⊥
      not_there e =
          let y = among_from_list_any (same x) xs e in
          let one : x ≡ y.0 = says x y.0 y.2 in
          let at = contains_from_among xs y.0 y.1 in
          let parts = result (searchable_from_sorted total (λ z. z) xs x (adjacent total xs sorted)) in
          let equal : cmp y.0 x ≡ Equal = ap (λ z. cmp y.0 z) one ∙ tied_itself total y.0 in
          elim (cases_lt at.0 i) [
            | inl low ↦
                let less : cmp y.0 x ≡ Less = subst (λ z. cmp z x ≡ Less) at.2 (parts.0 at.0 y.0 (omega arith) low) in
                let clash : Less ≡ Equal = sym less ∙ equal in absurd (cc)
            | inr high ↦
                let greater : cmp y.0 x ≡ Greater = subst (λ z. cmp z x ≡ Greater) at.2 (parts.1 at.0 y.0 (omega arith) at.1) in
                let clash : Greater ≡ Equal = sym greater ∙ equal in absurd (cc)
          ]

      go : (b : Bool) → list_any (same x) xs ≡ b → false ≡ list_any (same x) xs
      go true e = absurd (not_there e)
      go false e = sym e
