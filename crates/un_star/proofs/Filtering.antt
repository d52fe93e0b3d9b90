-- Two tests of the elements of a list, in either order.
use Rattle.std.proofs.Common.{◌≡◌, Bool, true, false, cond, List, [], ◌∷◌, filter, refl, ap, ◌∙◌, sym}

module _ {A : Type 0} (p q : A → Bool) where
  pub filters_commute : (xs : List A) → filter p (filter q xs) ≡ filter q (filter p xs)
  filters_commute [] = refl
  filters_commute (x ∷ xs) = go (p x) (q x) (filters_commute xs) refl refl
    where
      go : (b c : Bool) → filter p (filter q xs) ≡ filter q (filter p xs) → p x ≡ b → q x ≡ c → filter p (cond c (x ∷ filter q xs) (filter q xs)) ≡ filter q (cond b (x ∷ filter p xs) (filter p xs))
      go true true rest e f = ap (λ d. cond d (x ∷ filter p (filter q xs)) (filter p (filter q xs))) e ∙ ap (λ l. x ∷ l) rest
          ∙ sym (ap (λ d. cond d (x ∷ filter q (filter p xs)) (filter q (filter p xs))) f)
      go true false rest e f = rest ∙ sym (ap (λ d. cond d (x ∷ filter q (filter p xs)) (filter q (filter p xs))) f)
      go false true rest e f = ap (λ d. cond d (x ∷ filter p (filter q xs)) (filter p (filter q xs))) e ∙ rest
      go false false rest e f = rest
