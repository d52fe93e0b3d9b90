-- The points that a validation looks at, gathered area by area.
use Rattle.std.proofs.Common.{◌≡◌, ℕ, Bool, true, false, true≢false, ◌||◌, List, [], ◌∷◌, ◌++◌, map, fold, None, unwrap_or, refl, sym, ap, subst, ◌∙◌, ◌⊎◌, inl, inr, Contains}
use Rattle.std.specs.List.Sorted.{IsStrictlySortedBy}
use Rattle.std.proofs.lemmas.List.Elements.{Contains-append_left, Contains-append_right, Contains-append_cases}
use Rattle.std.proofs.lemmas.List.Folds.{list_any-append}
use Rattle.std.specs.BTreeSet.{insert_key}
use Rattle.un_geom.specs.declared.point.Point.{Point}
use Rattle.un_geom.specs.Rectangle.{Rectangle}
use Rattle.un_geom.specs.Places.{point_cmp, covers}
use Rattle.un_points.specs.PointMaps.{value_at, covered}
use Rattle.un_defs.specs.declared.star.Star.{Star}
use Rattle.un_defs.specs.Features.{Features}
use Rattle.un_defs.specs.Star.{empty_star}
use Rattle.un_defs.specs.Sound.{IsSound}
use Rattle.un_defs.specs.Laws.{IsBare}
use Rattle.un_defs.proofs.Rising.{Among, among-insert_key, among-inserted, sorted-insert_key}
use Rattle.un_defs.proofs.Members.{among_from_contains, contains_from_among}
use Rattle.un_defs.proofs.OrderLaws.{point_total, point_ties}
use Rattle.un_defs.proofs.Empty.{empty_elsewhere}
use Rattle.un_facts.specs.Places.{ArePlaces}
use Rattle.un_facts.proofs.Placed.{is_there, covered_there, there_covered}
use Rattle.un_facts.specs.Known.{Known}
use Rattle.un_rebuild.specs.Gathered.{HaveSame}
use Rattle.un_rebuild.specs.Rebuilding.{is_under, ArePoints}

-- ---- a set into which points are put

abbrev pub put_all : List Point → List Point → List Point
put_all set points = fold (insert_key point_cmp) set points

pub put_old : (set points : List Point) (p : Point) → Among set p → Among (put_all set points) p
put_old set [] p h = h
put_old set (q ∷ qs) p h = put_old (insert_key point_cmp set q) qs p (among-insert_key point_cmp set q p h)

pub put_new : (set points : List Point) (p : Point) → Among points p → Among (put_all set points) p
put_new set [] p h = absurd h
put_new set (q ∷ qs) p h = elim h [
  | inl e ↦ subst (Among (put_all (insert_key point_cmp set q) qs)) e (put_old (insert_key point_cmp set q) qs q (among-inserted point_cmp set q (λ y _ t. point_ties q y t)))
  | inr i ↦ put_new (insert_key point_cmp set q) qs p i
]

pub sorted_put : (set points : List Point) → IsStrictlySortedBy point_cmp set → IsStrictlySortedBy point_cmp (put_all set points)
sorted_put set [] h = h
sorted_put set (q ∷ qs) h = sorted_put (insert_key point_cmp set q) qs (sorted-insert_key point_total set q h)

-- ---- what the areas give

-- the points lie under these areas alone, and all are there at which something stands or a star is kept
pub record Gathers (F : Features) (kept : List (Point × Star)) (areas : List (ℕ × Rectangle)) (points : List Point) : Type 0 where
  pub from : (p : Point) → Contains points p → is_under areas p ≡ true
  pub to : (p : Point) → is_under areas p ≡ true → Contains points p ⊎ (IsBare F p × (value_at p kept ≡ None))

pub sorted_none : IsStrictlySortedBy point_cmp []
unfolding IsStrictlySortedBy
sorted_none = tt

-- the areas of a list, and one more
pub under_split : (areas : List (ℕ × Rectangle)) (area : ℕ × Rectangle) (p : Point) → is_under (areas ++ area ∷ []) p ≡ (is_under areas p || covers area.1 p)
under_split areas area p = list_any-append (λ area. covers area.1 p) areas (area ∷ []) ∙ ap (λ b. is_under areas p || b) (or_false (covers area.1 p))
  where
    or_false : (b : Bool) → (b || false) ≡ b
    or_false true = refl
    or_false false = refl

or_left : (a b : Bool) → a ≡ true → (a || b) ≡ true
or_left true b e = refl
or_left false b e = absurd (true≢false (sym e))

or_right : (a b : Bool) → b ≡ true → (a || b) ≡ true
or_right true b e = refl
or_right false b e = e

pub or_cases : (a b : Bool) → (a || b) ≡ true → (a ≡ true) ⊎ (b ≡ true)
or_cases true b e = inl refl
or_cases false b e = inr e

module _ (F : Features) (kept : List (Point × Star)) where
  -- one area more, the points at which something stands under it, and then those at which a star is kept
  pub gathers_more : (areas : List (ℕ × Rectangle)) (area : ℕ × Rectangle) (points standing joined all : List Point) → Gathers F kept areas points → ArePlaces F area.1 standing
      → HaveSame (points ++ standing) joined → HaveSame (joined ++ map (λ e. e.0) (covered area.1 kept)) all → Gathers F kept (areas ++ area ∷ []) all
  gathers_more areas area points standing joined all g are first second =
      let stars : List Point = map {B = Point} (λ e. e.0) (covered area.1 kept) in
      let inside : (p : Point) → covers area.1 p ≡ true → is_under (areas ++ area ∷ []) p ≡ true =
      λ p c. under_split areas area p ∙ or_right (is_under areas p) (covers area.1 p) c in
      let here : (p : Point) → Contains (points ++ standing) p → Contains all p =
      λ p h. second.keeps p (Contains-append_left joined stars p (first.keeps p h)) in
      record {
        from = λ p h. elim (Contains-append_cases joined stars p (second.adds_none p h)) [
          | inl i ↦ elim (Contains-append_cases points standing p (first.adds_none p i)) [
            | inl j ↦ under_split areas area p ∙ or_left (is_under areas p) (covers area.1 p) (g.from p j)
            | inr j ↦ inside p (are.inside p j)
          ]
          | inr i ↦ inside p (there_covered area.1 kept p (among_from_contains stars p i))
        ];
        to = λ p h. elim (or_cases (is_under areas p) (covers area.1 p) (sym (under_split areas area p) ∙ h)) [
          | inl u ↦ elim (g.to p u) [ inl i ↦ inl (here p (Contains-append_left points standing p i)) | inr n ↦ inr n ]
          | inr c ↦ elim (are.whole p c) [
            | inl i ↦ inl (here p (Contains-append_right points standing p i))
            | inr none ↦ elim (is_there kept p) [
              | inl i ↦ inl (second.keeps p (Contains-append_right joined stars p (contains_from_among stars p (covered_there area.1 kept p c i))))
              | inr m ↦ inr (none, m)
            ]
          ]
        ];
      }

-- ---- all areas

pub are_points : (K : Known) → IsSound K.setup.schema K.features → (kept : List (Point × Star)) (areas : List (ℕ × Rectangle)) (gathered points : List Point)
    → Gathers K.features kept areas gathered → HaveSame gathered points → ArePoints K kept areas points
are_points K sound kept areas gathered points g same = record {
  under = λ p h. g.from p (same.adds_none p h);
  whole = λ p u. elim (g.to p u) [
    | inl i ↦ inl (same.keeps p i)
    | inr n ↦ inr (ap (λ o. unwrap_or o empty_star) n.1, empty_elsewhere K.setup.schema K.features sound p n.0)
  ];
}
