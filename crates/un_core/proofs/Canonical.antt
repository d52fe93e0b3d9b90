-- A list of points with their stars, in order and without empty stars, is determined by its look-ups.
use Rattle.std.proofs.Common.{◌≡◌, ◌≢◌, sym, ap, ◌∙◌, subst, inl, inr}
use Rattle.std.specs.List.Sorted.{IsStrictlySortedBy}
use Rattle.un_geom.specs.declared.point.Point.{Point}
use Rattle.un_defs.specs.declared.star.Star.{Star}
use Rattle.un_defs.specs.Star.{empty_star}
use Rattle.un_defs.proofs.Rising.{Among, sorted_unique}
use Rattle.un_defs.proofs.Unique.{point_same}
use Rattle.un_index.specs.Kept.{stars_of}
use Rattle.un_core.specs.Validation.{by_point}
use Rattle.un_core.proofs.LookUps.{Pairs, IsMap, by_point_total, sorted_map, found_at, at_point, missing}

-- no star of the list is the empty one
abbrev pub AreNonempty : Pairs → Type 0
AreNonempty xs = (pair : Point × Star) → Among xs pair → pair.1 ≢ empty_star

one_way : (xs ys : Pairs) → IsMap xs → IsMap ys → AreNonempty xs → ((p : Point) → stars_of xs p ≡ stars_of ys p) → (pair : Point × Star) → Among xs pair → Among ys pair
one_way xs ys mx my nonempty same pair i =
    elim (at_point ys pair.0) [
      | inl r ↦
          let at : r.0.0 ≡ pair.0 = point_same r.0.0 pair.0 r.2 in
          let star : r.0.1 ≡ pair.1 = sym (found_at ys my r.0 r.1) ∙ ap (stars_of ys) at ∙ sym (same pair.0) ∙ found_at xs mx pair i in
          subst (Among ys) (λ i. (at i, star i)) r.1
      | inr m ↦ absurd (nonempty pair i (sym (found_at xs mx pair i) ∙ same pair.0 ∙ missing ys pair.0 m))
    ]

pub canonical : (xs ys : Pairs) → IsStrictlySortedBy by_point xs → IsStrictlySortedBy by_point ys → AreNonempty xs → AreNonempty ys
    → ((p : Point) → stars_of xs p ≡ stars_of ys p) → xs ≡ ys
canonical xs ys sx sy tx ty same =
    sorted_unique by_point_total xs ys sx sy
    (one_way xs ys (sorted_map xs sx) (sorted_map ys sy) tx same)
    (one_way ys xs (sorted_map ys sy) (sorted_map xs sx) ty (λ p. sym (same p)))
