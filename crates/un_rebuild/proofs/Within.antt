-- Points that areas in an extent cover.
use Rattle.std.proofs.Common.{◌≡◌, ℕ, ℤ, int_le, Bool, true, false, cond, ◌&&◌, ◌||◌, List, [], ◌∷◌, ◌++◌, map, filter, Some, is_some, option_map, find, refl, sym, ap, ◌∙◌, inl, inr, true≢false, arith}
use Rattle.std.proofs.lemmas.Int.{ints}
use Rattle.std.proofs.lemmas.List.Elements.{Contains-append_left, Contains-append_right, Contains-append_cases}
use Rattle.un_geom.specs.declared.point.Point.{Point}
use Rattle.un_geom.specs.Rectangle.{Rectangle}
use Rattle.un_geom.specs.Places.{between, covers, overlap, meets}
use Rattle.un_geom.proofs.Rectangles.{le_test, test_le}
use Rattle.un_points.specs.PointMaps.{covered}
use Rattle.un_defs.specs.declared.star.Star.{Star}
use Rattle.un_defs.specs.Features.{Features}
use Rattle.un_defs.proofs.LinkCases.{both_true, true_both}
use Rattle.un_defs.proofs.Members.{among_from_contains, contains_from_among, among-filter, among_from-filter}
use Rattle.un_facts.specs.Places.{ArePlaces}
use Rattle.un_facts.proofs.Placed.{is_there, covered_there, there_covered}
use Rattle.un_rebuild.specs.Gathered.{HaveSame}
use Rattle.un_rebuild.specs.Rebuilding.{is_under, met}
use Rattle.un_rebuild.specs.Inside.{lies_in, AreWithin}
use Rattle.un_rebuild.proofs.Pointed.{Gathers}

int_chain : (a b c : ℤ) → int_le a b ≡ true → int_le b c ≡ true → int_le a c ≡ true
int_chain a b c h g = let f = test_le a b h in let k = test_le b c g in le_test a c (omega (arith, ints))

-- rectangles that share a point meet
meets_by : (r s : Rectangle) (p : Point) → covers r p ≡ true → covers s p ≡ true → meets r s ≡ true
meets_by r s p in_r in_s =
    let here = both_true (between r.x0 p.x r.x1) (between r.y0 p.y r.y1) in_r in
    let there = both_true (between s.x0 p.x s.x1) (between s.y0 p.y s.y1) in_s in
    let rx = both_true (int_le r.x0 p.x) (int_le p.x r.x1) here.0 in
    let ry = both_true (int_le r.y0 p.y) (int_le p.y r.y1) here.1 in
    let sx = both_true (int_le s.x0 p.x) (int_le p.x s.x1) there.0 in
    let sy = both_true (int_le s.y0 p.y) (int_le p.y s.y1) there.1 in
    true_both (overlap r.x0 r.x1 s.x0 s.x1) (overlap r.y0 r.y1 s.y0 s.y1)
    (true_both (int_le r.x0 s.x1) (int_le s.x0 r.x1) (int_chain r.x0 p.x s.x1 rx.0 sx.1) (int_chain s.x0 p.x r.x1 sx.0 rx.1))
    (true_both (int_le r.y0 s.y1) (int_le s.y0 r.y1) (int_chain r.y0 p.y s.y1 ry.0 sy.1) (int_chain s.y0 p.y r.y1 sy.0 ry.1))

-- a rectangle whose sides lie between those of another covers nothing that the other does not
pub within_by : (one other : Rectangle) → lies_in one other ≡ true → (p : Point) → covers one p ≡ true → covers other p ≡ true
within_by one other e p h =
    let sides = both_true (int_le other.x0 one.x0 && int_le one.x1 other.x1) (int_le other.y0 one.y0 && int_le one.y1 other.y1) e in
    let across = both_true (int_le other.x0 one.x0) (int_le one.x1 other.x1) sides.0 in
    let along = both_true (int_le other.y0 one.y0) (int_le one.y1 other.y1) sides.1 in
    let parts = both_true (between one.x0 p.x one.x1) (between one.y0 p.y one.y1) h in
    let x = both_true (int_le one.x0 p.x) (int_le p.x one.x1) parts.0 in
    let y = both_true (int_le one.y0 p.y) (int_le p.y one.y1) parts.1 in
    true_both (between other.x0 p.x other.x1) (between other.y0 p.y other.y1)
    (true_both (int_le other.x0 p.x) (int_le p.x other.x1) (int_chain other.x0 one.x0 p.x across.0 x.0) (int_chain p.x one.x1 other.x1 x.1 across.1))
    (true_both (int_le other.y0 p.y) (int_le p.y other.y1) (int_chain other.y0 one.y0 p.y along.0 y.0) (int_chain p.y one.y1 other.y1 y.1 along.1))

-- a point of the extent lies under an area that meets the extent where it lies under any
pub met_under : (extent : Rectangle) (areas : List (ℕ × Rectangle)) (p : Point) → covers extent p ≡ true → is_under areas p ≡ is_under (met extent areas) p
met_under extent [] p inside = refl
met_under extent (area ∷ areas) p inside = go (meets area.1 extent) refl (met_under extent areas p inside)
  where
    apart : meets area.1 extent ≡ false → (b : Bool) → covers area.1 p ≡ b → b ≡ false
    apart far false e = refl
    apart far true e = absurd (true≢false (sym (meets_by area.1 extent p e inside) ∙ far))

    go : (b : Bool) → meets area.1 extent ≡ b → is_under areas p ≡ is_under (met extent areas) p
        → (covers area.1 p || is_under areas p) ≡ is_under (cond b (area ∷ met extent areas) (met extent areas)) p
    go true e rest = ap (λ b. covers area.1 p || b) rest
    go false e rest = ap (λ b. b || is_under areas p) (apart e (covers area.1 p) refl) ∙ rest

-- the first of the areas that cover a point is there where one covers it
pub found_under : (areas : List (ℕ × Rectangle)) (p : Point) → is_some (option_map (λ area. area.0) (find (λ area. covers area.1 p) areas)) ≡ is_under areas p
found_under [] p = refl
found_under (area ∷ areas) p = by (covers area.1 p) (found_under areas p)
  where
    by : (b : Bool) → is_some (option_map (λ area. area.0) (find (λ area. covers area.1 p) areas)) ≡ is_under areas p
        → is_some (option_map (λ area. area.0) (cond b (Some area) (find (λ area. covers area.1 p) areas))) ≡ (b || is_under areas p)
    by true rest = refl
    by false rest = rest

-- what the areas that meet the extent cover another area may cover as well
pub met_is_under : (extent : Rectangle) (areas : List (ℕ × Rectangle)) (p : Point) → covers extent p ≡ true → is_under (met extent areas) p ≡ true → is_under areas p ≡ true
met_is_under extent areas p inside e = met_under extent areas p inside ∙ e

module _ (F : Features) (kept : List (Point × Star)) (extent : Rectangle) (areas : List (ℕ × Rectangle)) where
  -- of the points in the extent at which something stands, and of those at which a star is kept, those under areas are all under the areas in it
  pub gathers_inside : (standing joined all : List Point) → AreWithin (met extent areas) extent → ArePlaces F extent standing
      → HaveSame ([] ++ filter (is_under areas) standing) joined → HaveSame (joined ++ filter (is_under areas) (map (λ e. e.0) (covered extent kept))) all
      → Gathers F kept (met extent areas) all
  gathers_inside standing joined all within are first second =
      let stars : List Point = map {B = Point} (λ e. e.0) (covered extent kept) in
      let one : List Point = filter (is_under areas) standing in
      let two : List Point = filter (is_under areas) stars in
      record {
        from = λ p h. elim (Contains-append_cases joined two p (second.adds_none p h)) [
          | inl i ↦
              let f = among_from-filter (is_under areas) standing p (among_from_contains one p (first.adds_none p i)) in
              sym (met_under extent areas p (are.inside p (contains_from_among standing p f.0))) ∙ f.1
          | inr i ↦
              let f = among_from-filter (is_under areas) stars p (among_from_contains two p i) in
              sym (met_under extent areas p (there_covered extent kept p f.0)) ∙ f.1
        ];
        to = λ p h.
            let inside : covers extent p ≡ true = within p h in
            let under : is_under areas p ≡ true = met_is_under extent areas p inside h in
            elim (are.whole p inside) [
              | inl i ↦ inl (second.keeps p (Contains-append_left joined two p (first.keeps p (contains_from_among one p (among-filter (is_under areas) standing p (among_from_contains standing p i) under)))))
              | inr none ↦ elim (is_there kept p) [
                | inl i ↦ inl (second.keeps p (Contains-append_right joined two p (contains_from_among two p (among-filter (is_under areas) stars p (covered_there extent kept p inside i) under))))
                | inr m ↦ inr (none, m)
              ]
            ];
      }
