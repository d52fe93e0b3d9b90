-- The points of a page of differences rise, and each of them is a point of one of the two topologies.
use Rattle.std.proofs.Common.{◌≡◌, ◌⊎◌, ℕ, zero, suc, ◌≤◌, nat_lt, Bool, true, false, cond, List, [], ◌∷◌, ◌++◌, length, take, map, filter, All, Option, Some, inl, inr, refl, sym, ap, subst, arith}
use Rattle.std.specs.Ordering.{is_lt}
use Rattle.std.specs.declared.cmp.Ordering.TheVariants.{Less}
use Rattle.std.specs.List.Sorted.{IsStrictlySortedBy}
use Rattle.std.specs.Map.{keys_of}
use Rattle.std.proofs.lemmas.Bool.Decides.{nat_tests}
use Rattle.std.proofs.lemmas.List.Elements.{All-take, All-filter}
use Rattle.un_geom.specs.declared.point.Point.{Point}
use Rattle.un_geom.specs.Places.{point_cmp, same_point}
use Rattle.un_pages.specs.Pairs.{IsOrdered, IsAbove, past, is_past}
use Rattle.un_points.specs.PointMaps.{value_at}
use Rattle.un_defs.specs.declared.star.Star.{Star}
use Rattle.un_defs.proofs.LinkCases.{true_both, some_same}
use Rattle.un_defs.proofs.Rising.{Among, among_from-rising}
use Rattle.un_defs.proofs.Members.{among_cases, among_from-filter, among_from-map}
use Rattle.un_defs.proofs.Unique.{point_same}
use Rattle.un_feed.specs.Differences.{Kept, Difference, points_of, differences}
use Rattle.un_feed.proofs.Applying.{changed, points_sorted}
use Rattle.un_feed_json.specs.Lines.{rises_after, is_empty}
use Rattle.un_defs.proofs.KeepsSound.{all_from}

-- ---- the points rise

module _ (p : Difference → Bool) where
  above_kept : (k : Point) (ds : List Difference) → IsAbove point_cmp k ds → IsAbove point_cmp k (filter p ds)
  above_kept k [] h = tt
  above_kept k (d ∷ ds) h =
      elim (p d) as (λ b. IsAbove point_cmp k (cond b (d ∷ filter p ds) (filter p ds))) [ true ↦ (h.0, above_kept k ds h.1) | false ↦ above_kept k ds h.1 ]

  ordered_kept : (ds : List Difference) → IsOrdered point_cmp ds → IsOrdered point_cmp (filter p ds)
  unfolding IsStrictlySortedBy
  ordered_kept [] s = tt
  ordered_kept (d ∷ ds) s =
      elim (p d) as (λ b. IsOrdered point_cmp (cond b (d ∷ filter p ds) (filter p ds))) [ true ↦ (above_kept d.0 ds s.0, ordered_kept ds s.1) | false ↦ ordered_kept ds s.1 ]

above_each : (k : Point) (ds : List Difference) → IsAbove point_cmp k ds → (d : Difference) → Among ds d → point_cmp k d.0 ≡ Less
above_each k [] above d h = absurd h
above_each k (e ∷ ds) above d h = elim h [ inl same ↦ subst (λ (d : Difference). point_cmp k d.0 ≡ Less) same above.0 | inr i ↦ above_each k ds above.1 d i ]

-- ordered differences that come after a point rise after it
rises : (most : ℕ) (last : Option Point) (ds : List Difference) → IsOrdered point_cmp ds → ((d : Difference) → Among ds d → is_past point_cmp last d.0 ≡ true)
    → rises_after last (take most ds) ≡ true
unfolding IsStrictlySortedBy
rises zero last ds s late = refl
rises (suc n) last [] s late = refl
rises (suc n) last (d ∷ ds) s late =
    true_both (is_past point_cmp last d.0) (rises_after (Some d.0) (take n ds)) (late d (inl refl))
    (rises n (Some d.0) ds s.1 (λ e h. ap is_lt (above_each d.0 ds s.0 e h)))

keys_at : (new : Kept) (ps : List Point) → keys_of (map (λ p. (p, value_at p new)) ps) ≡ ps
keys_at new [] = refl
keys_at new (p ∷ ps) = ap (λ l. p ∷ l) (keys_at new ps)

differences_rise : (old new : Kept) → IsOrdered point_cmp (differences old new)
differences_rise old new = subst (IsStrictlySortedBy point_cmp) (sym (keys_at new (filter (changed old new) (points_of old new)))) (points_sorted old new)

pub page_rises : (old new : Kept) (after : Option Point) (most : ℕ) → rises_after after (take most (past point_cmp after (differences old new))) ≡ true
page_rises old new after most =
    rises most after (past point_cmp after (differences old new))
    (ordered_kept (λ d. is_past point_cmp after d.0) (differences old new) (differences_rise old new))
    (λ d h. (among_from-filter (λ (d : Difference). is_past point_cmp after d.0) (differences old new) d h).1)

-- ---- a page of which there are more is not empty

pub page_some : (ds : List Difference) (most : ℕ) → 1 ≤ most → nat_lt most (length ds) ≡ true → is_empty (take most ds) ≡ false
page_some ds zero some more = absurd (omega (arith, some))
page_some [] (suc n) some more = grind (arith, nat_tests)
page_some (d ∷ ds) (suc n) some more = refl

-- ---- what is on a page

key_of : (kept : Kept) (p : Point) → Among (keys_of kept) p → (star : Star) × Among kept (p, star)
key_of [] p h = absurd h
key_of (pair ∷ kept) p h = elim h [
  | inl same ↦ (pair.1, inl (λ i. (same i, pair.1)))
  | inr i ↦ let rest = key_of kept p i in (rest.0, inr rest.1)
]

found : (kept : Kept) (p : Point) (star : Star) → value_at p kept ≡ Some star → Among kept (p, star)
found [] p star e = cc
found (pair ∷ kept) p star e = by (λ f. found kept p star f) (same_point p pair.0) refl e
  where
    by : (value_at p kept ≡ Some star → Among kept (p, star)) → (b : Bool) → same_point p pair.0 ≡ b → cond b (Some pair.1) (value_at p kept) ≡ Some star → Among (pair ∷ kept) (p, star)
    by rest true same e = let points = sym (point_same p pair.0 same) in let stars = some_same pair.1 star e in inl (λ i. (points i, stars i))
    by rest false same e = inr (rest e)

-- the point of a difference is that of a kept star, and its star is kept in the newer topology
pub record IsOfKept (old new : Kept) (d : Difference) : Type 0 where
  pub kept : (star : Star) × (Among old (d.0, star) ⊎ Among new (d.0, star))
  pub now : (star : Star) → d.1 ≡ Some star → Among new (d.0, star)

of_kept : (old new : Kept) (d : Difference) → Among (differences old new) d → IsOfKept old new d
of_kept old new d h =
    let at = among_from-map (λ p. (p, value_at p new)) (filter (changed old new) (points_of old new)) d h in
    let point = among_from-rising point_cmp (keys_of old ++ keys_of new) at.0 (among_from-filter (changed old new) (points_of old new) at.0 at.1).0 in
    subst (IsOfKept old new) at.2 (record {
      kept = elim (among_cases (keys_of old) (keys_of new) at.0 point) [
        | inl i ↦ let is = key_of old at.0 i in (is.0, inl is.1)
        | inr i ↦ let is = key_of new at.0 i in (is.0, inr is.1)
      ];
      now = λ star e. found new at.0 star e;
    })

-- what holds of the differences of kept topologies holds of those on a page
pub on_page : (P : Difference → Type 0) (old new : Kept) (after : Option Point) (most : ℕ) → ((d : Difference) → IsOfKept old new d → P d)
    → All P (take most (past point_cmp after (differences old new)))
on_page P old new after most h =
    All-take P most (past point_cmp after (differences old new))
    (All-filter (λ d. is_past point_cmp after d.0) P (differences old new) (all_from P (differences old new) (λ d i. h d (of_kept old new d i))))
