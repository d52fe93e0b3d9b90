-- A coordinate fits in 32 bits.
use Rattle.std.proofs.Common.{◌≡◌, ℤ, pos, neg_ℤ, Bool, true, false, ◌&&◌, int_le, List, [], ◌∷◌, length, slice_index_or, IsTrue, refl, sym, arith, true≢false}
use Rattle.std.specs.List.{list_all}
use Rattle.std.proofs.lemmas.Int.{ints}
use mir.Syntax.{w32, w64}
use mir.Val.{to_z, of_z}
use Rattle.un_geom.specs.declared.point.Point.{Point}
use Rattle.un_geom.specs.Rectangle.{rectangle, IsCoordinate, IsSpan}
use Rattle.un_geom.specs.Places.{in_range, point_of, IsPlace}

abbrev pub narrow : ℤ → ℤ
narrow n = to_z w32 (of_z w32 (to_z w64 (of_z w64 n)))

pub narrow-same : (n : ℤ) → IsCoordinate n → narrow n ≡ n
narrow-same n c = omega (arith, ints)

low_of_span : (low high : ℤ) → IsSpan low high → IsCoordinate low
low_of_span low high s = record { not_below = s.not_below; not_above = omega (arith, ints) }

high_of_span : (low high : ℤ) → IsSpan low high → IsCoordinate high
high_of_span low high s = record { not_below = omega (arith, ints); not_above = s.not_above }

pub rectangle-narrow : (x0 y0 x1 y1 : ℤ) → IsSpan x0 x1 → IsSpan y0 y1 → rectangle (narrow x0) (narrow y0) (narrow x1) (narrow y1) ≡ rectangle x0 y0 x1 y1
rectangle-narrow x0 y0 x1 y1 across along =
    let a = narrow-same x0 (low_of_span _ _ across) in
    let b = narrow-same x1 (high_of_span _ _ across) in
    let c = narrow-same y0 (low_of_span _ _ along) in
    let d = narrow-same y1 (high_of_span _ _ along) in
    cc (a, b, c, d)

one : (a b : Bool) → (a && b) ≡ true → (a ≡ true) × (b ≡ true)
one true b e = (refl, e)
one false b e = absurd (true≢false (sym e))

-- ---- triples

pub coordinate_by_test : (n : ℤ) → in_range n ≡ true → IsCoordinate n
coordinate_by_test n e =
    let parts = one (int_le (neg_ℤ (pos 1_000_000_000)) n) (int_le n (pos 1_000_000_000)) e in
    record { not_below = grind (arith, ints); not_above = grind (arith, ints) }

-- the point of a triple that is read by index
abbrev pub point_read : List ℤ → Point
point_read t = record {
  x = slice_index_or t 0 (pos 0);
  y = slice_index_or t 1 (pos 0);
  z = slice_index_or t 2 (pos 0);
}

pub point_of-read : (t : List ℤ) → length t ≡ 3 → point_of t ≡ point_read t
point_of-read (x ∷ y ∷ z ∷ []) e = refl
point_of-read [] e = cc
point_of-read (x ∷ []) e = cc
point_of-read (x ∷ y ∷ []) e = cc
point_of-read (x ∷ y ∷ z ∷ w ∷ rest) e = absurd (omega arith)

pub place_read : (t : List ℤ) → length t ≡ 3 → IsTrue (list_all in_range t) → IsPlace (point_of t)
place_read (x ∷ y ∷ z ∷ []) e h =
    let a = one (in_range x) _ h in
    let b = one (in_range y) _ a.1 in
    let c = one (in_range z) _ b.1 in
    record { x = coordinate_by_test x a.0; y = coordinate_by_test y b.0; z = coordinate_by_test z c.0 }
place_read [] e h = cc
place_read (x ∷ []) e h = cc
place_read (x ∷ y ∷ []) e h = cc
place_read (x ∷ y ∷ z ∷ w ∷ rest) e h = absurd (omega arith)

pub point_narrow : (t : List ℤ) → length t ≡ 3 → IsTrue (list_all in_range t) → record {
  x = narrow (slice_index_or t 0 (pos 0));
  y = narrow (slice_index_or t 1 (pos 0));
  z = narrow (slice_index_or t 2 (pos 0));
} ≡ point_of t
point_narrow t e h =
    let p = place_read t e h in
    let f = point_of-read t e in
    let x = narrow-same (slice_index_or t 0 (pos 0)) (rw f at p.x) in
    let y = narrow-same (slice_index_or t 1 (pos 0)) (rw f at p.y) in
    let z = narrow-same (slice_index_or t 2 (pos 0)) (rw f at p.z) in
    cc (f, x, y, z)
