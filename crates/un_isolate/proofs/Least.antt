-- The least element of a list.
use Rattle.std.proofs.Common.{◌≡◌, List, [], ◌∷◌, Some, None, inl, inr, refl, sym, ap, subst, ◌∙◌, true≢false}
use Rattle.std.specs.Prelude.{slice_get, true}
use Rattle.std.specs.declared.cmp.Ordering.{Ordering}
use Rattle.std.specs.declared.cmp.Ordering.TheVariants.{Less, Equal, Greater}
use Rattle.std.specs.Ordering.{is_le, ordering_reverse}
use Rattle.std.specs.Cmp.{IsTotalOrder}
use Rattle.std.specs.FinMap.{IsAntisymmetric}
use Rattle.std.specs.List.{AllByRecursion}
use Rattle.std.specs.List.Sorted.{IsStrictlySortedBy}
use Rattle.std.proofs.lemmas.Cmp.{tied_itself}
use Rattle.un_defs.specs.Orders.{rising, least}
use Rattle.un_defs.proofs.Rising.{Among, among-rising, among_from-rising, sorted-rising}

pub all_among : {A : Type 0} (P : A → Type 0) (xs : List A) → AllByRecursion P xs → (x : A) → Among xs x → P x
all_among P [] h x g = absurd g
all_among P (y ∷ ys) h x g = elim g [ inl e ↦ subst P e h.0 | inr i ↦ all_among P ys h.1 x i ]

module _ {A : Type 0} {cmp : A → A → Ordering} (o : IsTotalOrder cmp) (ties : IsAntisymmetric cmp) where
  -- one of the elements, and none is before it
  abbrev pub IsLeastOf : List A → A → Type 0
  IsLeastOf xs x = Among xs x × ((y : A) → Among xs y → is_le (cmp x y) ≡ true)

  first_least : (xs : List A) (x : A) (ys : List A) → rising cmp xs ≡ x ∷ ys → IsStrictlySortedBy cmp (x ∷ ys) → IsLeastOf xs x
  unfolding IsStrictlySortedBy
  first_least xs x ys e sorted = (
    among_from-rising cmp xs x (subst (λ l. Among l x) (sym e) (inl refl)),
    λ y h. elim (subst (λ l. Among l y) e (among-rising cmp xs (λ a b _ _ t. ties a b t) y h)) [
      | inl same ↦ ap is_le (subst (λ z. cmp x z ≡ Equal) same (tied_itself o x))
      | inr later ↦ ap is_le (all_among (λ z. cmp x z ≡ Less) ys sorted.0 y later)
    ],
  )

  -- of two least elements each is the other
  both_least : (k : Ordering) → is_le k ≡ true → is_le (ordering_reverse k) ≡ true → k ≡ Equal
  both_least Less e f = absurd (true≢false (sym f))
  both_least Equal e f = refl
  both_least Greater e f = absurd (true≢false (sym e))

  one_least : (xs : List A) (x y : A) → IsLeastOf xs x → IsLeastOf xs y → x ≡ y
  one_least xs x y h g = ties x y (both_least (cmp x y) (h.1 y g.0) (ap is_le (sym (o.antisymm y x)) ∙ g.1 x h.0))

  some_is : {B : Type 0} (x y : B) → Some x ≡ Some y → x ≡ y
  some_is x y e = cc

  none_some : {B : Type 0} (x : B) → None ≡ Some x → ⊥
  none_some x e = cc

  pub least_is : (xs : List A) (x : A) → least cmp xs ≡ Some x → IsLeastOf xs x
  least_is xs x e = go (rising cmp xs) refl (sorted-rising o xs) e
    where
      go : (r : List A) → rising cmp xs ≡ r → IsStrictlySortedBy cmp r → slice_get r 0 ≡ Some x → IsLeastOf xs x
      go [] is sorted f = absurd (none_some x f)
      go (y ∷ ys) is sorted f = subst (IsLeastOf xs) (some_is y x f) (first_least xs y ys is sorted)

  pub is_least : (xs : List A) (x : A) → IsLeastOf xs x → least cmp xs ≡ Some x
  is_least xs x h = go (rising cmp xs) refl (sorted-rising o xs)
    where
      go : (r : List A) → rising cmp xs ≡ r → IsStrictlySortedBy cmp r → slice_get r 0 ≡ Some x
      go [] is sorted = absurd (subst (λ l. Among l x) is (among-rising cmp xs (λ a b _ _ t. ties a b t) x h.0))
      go (y ∷ ys) is sorted = ap Some (one_least xs y x (first_least xs y ys is sorted) h)

  pub least_none : (xs : List A) → least cmp xs ≡ None → (x : A) → ¬ Among xs x
  least_none xs e x h = go (rising cmp xs) refl e
    where
      go : (r : List A) → rising cmp xs ≡ r → slice_get r 0 ≡ None → ⊥
      go [] is f = subst (λ l. Among l x) is (among-rising cmp xs (λ a b _ _ t. ties a b t) x h)
      go (y ∷ ys) is f = none_some y (sym f)

  pub none_least : (xs : List A) → ((x : A) → ¬ Among xs x) → least cmp xs ≡ None
  none_least xs none = go (rising cmp xs) refl
    where
      go : (r : List A) → rising cmp xs ≡ r → slice_get r 0 ≡ None
      go [] is = refl
      go (y ∷ ys) is = absurd (none y (among_from-rising cmp xs y (subst (λ l. Among l y) (sym is) (inl refl))))
