-- Two lists are compared pair by pair.
use Rattle.std.proofs.Common.{◌≡◌, ◌&&◌, Bool, List, [], ◌∷◌, length, refl, ap, arith}
use Rattle.std.specs.List.{list_all, zip}
use Rattle.std.specs.Cmp.Lexicographic.{pointwise}

module _ {A : Type 0} (same : A → A → Bool) where
  -- of lists that are as long, each pair is looked at
  pub pairs : (xs ys : List A) → length xs ≡ length ys → pointwise same xs ys ≡ list_all (λ p. same p.0 p.1) (zip xs ys)
  pairs [] [] e = refl
  pairs [] (y ∷ ys) e = absurd (omega (arith, e))
  pairs (x ∷ xs) [] e = absurd (omega (arith, e))
  pairs (x ∷ xs) (y ∷ ys) e = ap (λ b. same x y && b) (pairs xs ys (omega (arith, e)))
