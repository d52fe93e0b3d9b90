-- The envelope of places is a rectangle, and one more point widens it.
use Rattle.std.proofs.Common.{◌≡◌, ℕ, ◌+◌, ◌<◌, ℤ, ◌≤ℤ◌, pos, List, fold, refl, map, take, length, slice_index_or, All, Contains, inl, inr, ◌⊎◌, sym, ap, subst, arith, Option, None, Some, IsSome, IfSome}
use Rattle.std.proofs.Math.ListN.{get_or-map}
use Rattle.std.proofs.lemmas.List.{length-map, take-map}
use Rattle.std.proofs.lemmas.List.Sums.{fold_more}
use Rattle.std.proofs.lemmas.List.Elements.{All-map}
use mir.Syntax.{w32}
use mir.Val.{to_z, of_z, SFits}
use Rattle.std.proofs.lemmas.Int.{ints, to_z-of_z, fold-int_min_bounds, fold-int_max_bounds, fold-int_min_reached, fold-int_max_reached}
use Rattle.un_geom.specs.declared.point.Point.{Point}
use Rattle.un_geom.specs.Rectangle.{Rectangle, IsCoordinate, IsSpan, IsBounded}
use Rattle.un_geom.specs.Places.{least_of, greatest_of, envelope_from, IsPlace}

-- a point that no list has, for a read past the end
abbrev pub blank : Point
blank = record { x = pos 0; y = pos 0; z = pos 0 }

-- one turn of the loop for one side, in the terms of 32 bits
pub side_step : (op : ℤ → ℤ → ℤ) (f : Point → ℤ) (n : ℤ) (ps : List Point) (i : ℕ) (before r : ℤ) → i < length ps → before ≡ fold op n (map f (take i ps))
    → r ≡ op before (to_z w32 (of_z w32 (f (slice_index_or ps i blank)))) → SFits w32 r → SFits w32 (f (slice_index_or ps i blank))
    → to_z w32 (of_z w32 r) ≡ fold op n (map f (take (i + 1) ps))
side_step op f n ps i before r h e g fits reads =
    let size : i < length (map f ps) = subst (λ m. i < m) (sym (length-map ps f)) h in
    let more = fold_more op n (map f ps) i (f blank) size in
    let later = take-map f (i + 1) ps in
    let sooner = take-map f i ps in
    let read = get_or-map f ps i blank in
    let kept = to_z-of_z w32 r fits in
    let side = to_z-of_z w32 (f (slice_index_or ps i blank)) reads in
    cc (more, later, sooner, read, kept, side)

coordinate_among : (n : ℤ) (ms : List ℤ) (r : ℤ) → IsCoordinate n → All IsCoordinate ms → (r ≡ n) ⊎ Contains ms r → IsCoordinate r
coordinate_among n ms r here there (inl e) = subst IsCoordinate (sym e) here
coordinate_among n ms r here there (inr c) = subst IsCoordinate c.2 (there c.0 r c.1)

span : (n : ℤ) (ms : List ℤ) → IsCoordinate n → All IsCoordinate ms → IsSpan (least_of n ms) (greatest_of n ms)
span n ms here there =
    let low : IsCoordinate (least_of n ms) = coordinate_among n ms (least_of n ms) here there (fold-int_min_reached n ms _ refl) in
    let high : IsCoordinate (greatest_of n ms) = coordinate_among n ms (greatest_of n ms) here there (fold-int_max_reached n ms _ refl) in
    let below = fold-int_min_bounds n ms (least_of n ms) refl in
    let above = fold-int_max_bounds n ms (greatest_of n ms) refl in
    let ordered : least_of n ms ≤ℤ greatest_of n ms = omega (arith, ints, below.0, above.0) in
    record { not_below = low.not_below; ordered = ordered; not_above = high.not_above }

-- no side of an envelope of places is turned round
pub envelope_bounded : (p : Point) (ps : List Point) → IsPlace p → All IsPlace ps → IsBounded (envelope_from p ps)
envelope_bounded p ps here there = record {
  across = span p.x (map (λ q. q.x) ps) here.x (All-map IsCoordinate (λ q. q.x) ps (λ k d h. (there k d h).x));
  along = span p.y (map (λ q. q.y) ps) here.y (All-map IsCoordinate (λ q. q.y) ps (λ k d h. (there k d h).y));
}

-- a rectangle that is made is this one
pub is_made : (o : Option Rectangle) (r : Rectangle) → IsSome o → IfSome o (λ q. q ≡ r) → o ≡ Some r
is_made None r there is = cc
is_made (Some q) r there is = ap Some is
