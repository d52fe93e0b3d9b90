-- One more session at the opening.
use Rattle.std.proofs.Common.{◌≡◌, ℕ, zero, suc, ◌+◌, ◌<◌, List, [], ◌∷◌, ◌++◌, length, length-append, ap, refl, sym, ◌∙◌, arith, Some, slice_get, ◌⊎◌, inl, inr, ⊎_elim}
use Rattle.un_publish.specs.Models.{SessionModel, AreFresh, fresh}

-- what stands in a list with one more element
pub get_snoc : {A : Type 0} (xs : List A) (x : A) (k : ℕ) (y : A) → slice_get (xs ++ x ∷ []) k ≡ Some y → (slice_get xs k ≡ Some y) ⊎ ((k ≡ length xs) × (x ≡ y))
get_snoc [] x zero y e = inr (refl, cc)
get_snoc [] x (suc k) y e = absurd cc
get_snoc (z ∷ zs) x zero y e = inl e
get_snoc (z ∷ zs) x (suc k) y e = ⊎_elim (λ h. inl h) (λ (h : (k ≡ length zs) × (x ≡ y)). inr (ap suc h.0, h.1)) (get_snoc zs x k y e)

pub get_below : {A : Type 0} (xs : List A) (k : ℕ) (y : A) → slice_get xs k ≡ Some y → k < length xs
get_below [] k y e = absurd cc
get_below (x ∷ xs) zero y e = omega arith
get_below (x ∷ xs) (suc k) y e = let h = get_below xs k y e in omega arith

module _ {M C R H K : Type 0} where
  pub one_more : (n : ℕ) (all : List (SessionModel M C R H K)) (s : SessionModel M C R H K) → AreFresh n all → s ≡ fresh n → AreFresh (n + 1) (all ++ s ∷ [])
  one_more n all s a e = record {
    count = let c = a.count in omega (arith, length-append all (s ∷ []));
    each = λ k t h. ⊎_elim (a.each k t) (λ (g : (k ≡ length all) × (s ≡ t)). sym g.1 ∙ e ∙ ap fresh (sym a.count ∙ sym g.0)) (get_snoc all s k t h);
  }
