-- The points of a row as subjects, up to the next one.
use Rattle.std.proofs.Common.{◌≡◌, ℕ, ◌+◌, ◌<◌, Bool, true, false, ◌||◌, List, [], ◌∷◌, ◌++◌, map, take, get_or, length, refl, sym, ◌∙◌, ap}
use Rattle.std.proofs.lemmas.List.{take_more}
use Rattle.std.specs.List.{list_any}
use Rattle.un_geom.specs.declared.point.Point.{Point}
use Rattle.un_subnet.specs.declared.row_index.Subject.{Subject}
use Rattle.un_subnet.specs.declared.row_index.Subject.TheVariants.{At}
use Rattle.un_subnet.specs.RowIndex.{same_subject}

one_more : (s : Subject) (points : List Point) (p : Point) → list_any (same_subject s) (map At (points ++ p ∷ [])) ≡ (list_any (same_subject s) (map At points) || same_subject s (At p))
one_more s [] p = or_false (same_subject s (At p))
  where
    or_false : (b : Bool) → (b || false) ≡ b
    or_false true = refl
    or_false false = refl
one_more s (q ∷ points) p = by (same_subject s (At q)) (one_more s points p)
  where
    by : (b : Bool) → list_any (same_subject s) (map At (points ++ p ∷ [])) ≡ (list_any (same_subject s) (map At points) || same_subject s (At p))
        → (b || list_any (same_subject s) (map At (points ++ p ∷ []))) ≡ ((b || list_any (same_subject s) (map At points)) || same_subject s (At p))
    by true ih = refl
    by false ih = ih

pub point_more : (s : Subject) (points : List Point) (i : ℕ) (p : Point) → i < length points
    → (list_any (same_subject s) (map At (take i points)) || same_subject s (At (get_or points i p))) ≡ list_any (same_subject s) (map At (take (i + 1) points))
point_more s points i p l = sym (one_more s (take i points) (get_or points i p)) ∙ ap (λ points. list_any (same_subject s) (map At points)) (sym (take_more points i p l))
