-- The envelope of places is bounded, and one more point widens it.
use Rattle.std.proofs.Common.{◌≡◌, ℕ, ◌+◌, ◌<◌, ℤ, ◌≤ℤ◌, pos, List, refl, map, take, length, slice_index_or, All, Contains, inl, inr, ◌⊎◌, sym, subst, arith}
use Rattle.std.specs.Int.{int_min, int_max}
use Rattle.std.proofs.Math.ListN.{get_or-map}
use Rattle.std.proofs.lemmas.List.{length-map, take-map}
use Rattle.std.proofs.lemmas.List.Sums.{fold_more}
use Rattle.std.proofs.lemmas.List.Elements.{All-map}
use mir.Syntax.{w32}
use mir.Val.{to_z, of_z, SFits}
use Rattle.std.proofs.lemmas.Int.{ints, to_z-of_z, fold-int_min_bounds, fold-int_max_bounds, fold-int_min_reached, fold-int_max_reached}
use Rattle.un_geom.specs.declared.point.Point.{Point}
use Rattle.un_geom.specs.Rectangle.{rectangle, IsCoordinate, IsSpan, IsBounded}
use Rattle.un_geom.specs.Places.{least_of, greatest_of, envelope_from, IsPlace}

pub least_of-more : (f : Point → ℤ) (n : ℤ) (ps : List Point) (i : ℕ) (d : Point) → i < length ps → least_of n (map f (take (i + 1) ps)) ≡ int_min (least_of n (map f (take i ps))) (f (slice_index_or ps i d))
least_of-more f n ps i d h =
    let size : i < length (map f ps) = subst (λ m. i < m) (sym (length-map ps f)) h in
    let a = fold_more int_min n (map f ps) i (f d) size in
    let b = take-map f (i + 1) ps in
    let c = take-map f i ps in
    let e = get_or-map f ps i d in
    cc (a, b, c, e)

pub greatest_of-more : (f : Point → ℤ) (n : ℤ) (ps : List Point) (i : ℕ) (d : Point) → i < length ps → greatest_of n (map f (take (i + 1) ps)) ≡ int_max (greatest_of n (map f (take i ps))) (f (slice_index_or ps i d))
greatest_of-more f n ps i d h =
    let size : i < length (map f ps) = subst (λ m. i < m) (sym (length-map ps f)) h in
    let a = fold_more int_max n (map f ps) i (f d) size in
    let b = take-map f (i + 1) ps in
    let c = take-map f i ps in
    let e = get_or-map f ps i d in
    cc (a, b, c, e)

-- a point that no list has, for a read past the end
abbrev pub blank : Point
blank = record { x = pos 0; y = pos 0; z = pos 0 }

-- one turn of the loop, in the terms of 32 bits
pub least_step : (f : Point → ℤ) (n : ℤ) (ps : List Point) (i : ℕ) (before r : ℤ) → i < length ps → before ≡ least_of n (map f (take i ps)) → r ≡ int_min before (to_z w32 (of_z w32 (f (slice_index_or ps i blank)))) → SFits w32 r → SFits w32 (f (slice_index_or ps i blank)) → to_z w32 (of_z w32 r) ≡ least_of n (map f (take (i + 1) ps))
least_step f n ps i before r h e g fits reads =
    let a = to_z-of_z w32 r fits in
    let b = to_z-of_z w32 (f (slice_index_or ps i blank)) reads in
    let c = least_of-more f n ps i blank h in
    cc (a, b, c)

pub greatest_step : (f : Point → ℤ) (n : ℤ) (ps : List Point) (i : ℕ) (before r : ℤ) → i < length ps → before ≡ greatest_of n (map f (take i ps)) → r ≡ int_max before (to_z w32 (of_z w32 (f (slice_index_or ps i blank)))) → SFits w32 r → SFits w32 (f (slice_index_or ps i blank)) → to_z w32 (of_z w32 r) ≡ greatest_of n (map f (take (i + 1) ps))
greatest_step f n ps i before r h e g fits reads =
    let a = to_z-of_z w32 r fits in
    let b = to_z-of_z w32 (f (slice_index_or ps i blank)) reads in
    let c = greatest_of-more f n ps i blank h in
    cc (a, b, c)

coordinate_among : (n : ℤ) (ms : List ℤ) (r : ℤ) → IsCoordinate n → All IsCoordinate ms → (r ≡ n) ⊎ Contains ms r → IsCoordinate r
coordinate_among n ms r here there (inl e) = subst IsCoordinate (sym e) here
coordinate_among n ms r here there (inr c) = subst IsCoordinate c.2 (there c.0 r c.1)

span : (n : ℤ) (ms : List ℤ) → IsCoordinate n → All IsCoordinate ms → IsSpan (least_of n ms) (greatest_of n ms)
span n ms here there =
    let low : IsCoordinate (least_of n ms) = coordinate_among n ms (least_of n ms) here there (fold-int_min_reached n ms _ refl) in
    let high : IsCoordinate (greatest_of n ms) = coordinate_among n ms (greatest_of n ms) here there (fold-int_max_reached n ms _ refl) in
    let below = fold-int_min_bounds n ms (least_of n ms) refl in
    let above = fold-int_max_bounds n ms (greatest_of n ms) refl in
    let ordered : least_of n ms ≤ℤ greatest_of n ms = omega (arith, ints, below.0, above.0) in
    record { not_below = low.not_below; ordered = ordered; not_above = high.not_above }

pub envelope_bounded : (p : Point) (ps : List Point) → IsPlace p → All IsPlace ps → IsBounded (envelope_from p ps)
envelope_bounded p ps here there = record {
  across = span p.x (map (λ q. q.x) ps) here.x (All-map IsCoordinate (λ q. q.x) ps (λ k d h. (there k d h).x));
  along = span p.y (map (λ q. q.y) ps) here.y (All-map IsCoordinate (λ q. q.y) ps (λ k d h. (there k d h).y));
}

-- the same of the four numbers that the loop ends with
pub ends_bounded : (p : Point) (ps : List Point) (x0 y0 x1 y1 : ℤ) → IsPlace p → All IsPlace ps → rectangle x0 y0 x1 y1 ≡ envelope_from p ps → IsBounded (rectangle x0 y0 x1 y1)
ends_bounded p ps x0 y0 x1 y1 here there e = subst IsBounded (sym e) (envelope_bounded p ps here there)
