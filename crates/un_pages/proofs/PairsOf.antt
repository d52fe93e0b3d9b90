-- A part of a row shows that part of what the row shows.
use Rattle.std.proofs.Common.{◌≡◌, ℕ, zero, suc, ◌+◌, ◌<◌, List, [], ◌∷◌, ◌++◌, length, set, take, drop, insert, remove, refl, sym, ◌∙◌, ap, arith}
use Rattle.std.specs.declared.sync.Arc.{Arc}
use Rattle.std.proofs.lemmas.List.{take-map, drop-map, map-append}
use Rattle.un_pages.specs.Pairs.{pairs_of, pair_of}

pub pairs_of_take : {K X Z : Type 0} (n : ℕ) (l : List (K × Arc X Z)) → pairs_of (take n l) ≡ take n (pairs_of l)
pairs_of_take n l = sym (take-map (λ p. (p.0, p.1.value)) n l)

pub pairs_of_drop : {K X Z : Type 0} (n : ℕ) (l : List (K × Arc X Z)) → pairs_of (drop n l) ≡ drop n (pairs_of l)
pairs_of_drop n l = sym (drop-map (λ p. (p.0, p.1.value)) n l)

pub pairs_of_append : {K X Z : Type 0} (l m : List (K × Arc X Z)) → pairs_of (l ++ m) ≡ pairs_of l ++ pairs_of m
pairs_of_append l m = map-append (λ p. (p.0, p.1.value)) l m

-- another entry at a place, one more there, and one less
pub pairs_of_set : {K X Z : Type 0} (l : List (K × Arc X Z)) (i : ℕ) (y : K × Arc X Z) → i < length l → pairs_of (set l i y) ≡ take i (pairs_of l) ++ ((pair_of y ∷ []) ++ drop (i + 1) (pairs_of l))
pairs_of_set [] i y h = absurd (omega arith)
pairs_of_set (x ∷ l) zero y h = refl
pairs_of_set (x ∷ l) (suc i) y h =
    let next : suc i + 1 ≡ suc (i + 1) = omega arith in
    rw next (ap (λ r. pair_of x ∷ r) (pairs_of_set l i y (omega arith)))

pub pairs_of_insert : {K X Z : Type 0} (l : List (K × Arc X Z)) (i : ℕ) (y : K × Arc X Z) → pairs_of (insert l i y) ≡ take i (pairs_of l) ++ ((pair_of y ∷ []) ++ drop i (pairs_of l))
pairs_of_insert l i y = pairs_of_append (take i l) (y ∷ drop i l) ∙ rw (pairs_of_take i l, pairs_of_drop i l) refl

pub pairs_of_remove : {K X Z : Type 0} (l : List (K × Arc X Z)) (i : ℕ) → pairs_of (remove l i) ≡ take i (pairs_of l) ++ drop (i + 1) (pairs_of l)
pairs_of_remove l i =
    let next : i + 1 ≡ suc i = omega arith in
    pairs_of_append (take i l) (drop (suc i) l) ∙ rw (next, pairs_of_take i l, pairs_of_drop (suc i) l) refl
