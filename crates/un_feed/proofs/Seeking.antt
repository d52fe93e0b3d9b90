-- What is found among points outside of which two topologies agree, and a look-up by the pairs from a point on.
use Rattle.std.proofs.Common.{◌≡◌, Bool, true, false, not, cond, ◌&&◌, List, [], ◌∷◌, map, filter, filter_map, Option, Some, None, refl, sym, ap, subst, ◌∙◌, true≢false}
use Rattle.std.specs.declared.cmp.Ordering.{Ordering}
use Rattle.std.specs.declared.cmp.Ordering.TheVariants.{Less, Equal, Greater}
use Rattle.std.specs.declared.ops.Bound.TheVariants.{Included}
use Rattle.std.specs.Ordering.{is_lt, is_eq, ordering_reverse}
use Rattle.std.specs.List.{cons_option}
use Rattle.std.specs.List.Sorted.{IsStrictlySortedBy}
use Rattle.std.proofs.lemmas.List.Kept.{IsStrictlySortedBy-filter}
use Rattle.un_geom.specs.declared.point.Point.{Point}
use Rattle.un_geom.specs.Places.{point_cmp, same_point}
use Rattle.un_pages.specs.Pairs.{IsOrdered, IsAbove, past, is_past, from_on, is_reached}
use Rattle.un_pages.proofs.Ordered.{above_lower}
use Rattle.un_points.specs.PointMaps.{value_at}
use Rattle.un_points.proofs.Lookups.{tie_same, same_is, same_itself, point_total}
use Rattle.un_defs.proofs.LinkCases.{both_true, true_both}
use Rattle.un_defs.proofs.ListLemmas.{filter-map}
use Rattle.un_defs.proofs.Rising.{Among, sorted_unique}
use Rattle.un_defs.proofs.Members.{among-filter, among_from-filter, among_from_contains}
use Rattle.un_feed.specs.Differences.{Kept, points_of, difference_at, differences, HasDifferences}
use Rattle.un_feed.proofs.SameMaps.{none_above}
use Rattle.un_feed.proofs.Applying.{changed, changed_differs, among_points, points_sorted}

-- ---- the differences at the points of a list

module _ {A B : Type 0} (f : A → B) (p : A → Bool) where
  pub chosen_map : (xs : List A) → filter_map (λ x. cond (p x) (Some (f x)) None) xs ≡ map f (filter p xs)
  chosen_map [] = refl
  chosen_map (x ∷ xs) =
      elim (p x) as (λ b. cons_option (cond b (Some (f x)) None) (filter_map (λ x. cond (p x) (Some (f x)) None) xs) ≡ map f (cond b (x ∷ filter p xs) (filter p xs))) [
        | true ↦ ap (λ l. f x ∷ l) (chosen_map xs)
        | false ↦ chosen_map xs
      ]

module _ (a b : Kept) (after : Option Point) (points : List Point) (sorted : IsStrictlySortedBy point_cmp points) (whole : HasDifferences a b after points) where
  abbrev sought : Point → Bool
  sought p = is_past point_cmp after p && changed a b p

  abbrev all_sought : List Point
  all_sought = filter (is_past point_cmp after) (filter (changed a b) (points_of a b))

  to_all : (p : Point) → Among (filter sought points) p → Among all_sought p
  to_all p h =
      let parts = both_true (is_past point_cmp after p) (changed a b p) (among_from-filter sought points p h).1 in
      among-filter (is_past point_cmp after) (filter (changed a b) (points_of a b)) p
      (among-filter (changed a b) (points_of a b) p (among_points a b p parts.1) parts.1) parts.0

  from_all : (p : Point) → Among all_sought p → Among (filter sought points) p
  from_all p h =
      let late = among_from-filter (is_past point_cmp after) (filter (changed a b) (points_of a b)) p h in
      let differs = among_from-filter (changed a b) (points_of a b) p late.0 in
      among-filter sought points p (among_from_contains points p (whole p late.1 (changed_differs a b p differs.1)))
      (true_both (is_past point_cmp after p) (changed a b p) late.1 differs.1)

  same_points : filter sought points ≡ all_sought
  same_points =
      sorted_unique point_total (filter sought points) all_sought
      (IsStrictlySortedBy-filter point_cmp sought points sorted)
      (IsStrictlySortedBy-filter point_cmp (is_past point_cmp after) (filter (changed a b) (points_of a b)) (points_sorted a b))
      to_all from_all

  -- the differences after a point are found among the points
  pub found_all : filter_map (difference_at a b after) points ≡ past point_cmp after (differences a b)
  found_all =
      chosen_map (λ p. (p, value_at p b)) sought points
      ∙ ap (map (λ p. (p, value_at p b))) same_points
      ∙ sym (filter-map (λ p. (p, value_at p b)) (λ d. is_past point_cmp after d.0) (filter (changed a b) (points_of a b)))

-- ---- a look-up

-- the test of two points that the derive gives
pub grouped : (a b c : Bool) → (a && b && c) ≡ (a && (b && c))
grouped true b c = refl
grouped false b c = refl

-- a key that is not reached is not the one sought
not_reached : (p k : Point) → is_reached point_cmp (Included p) k ≡ false → same_point p k ≡ false
not_reached p k e = by (point_cmp k p) refl e
  where
    by : (o : Ordering) → point_cmp k p ≡ o → not (is_lt o) ≡ false → same_point p k ≡ false
    by Less h e =
        let back : point_cmp p k ≡ Greater = point_total.antisymm p k ∙ ap ordering_reverse h in
        sym (tie_same p k) ∙ ap is_eq back
    by Equal h e = absurd (true≢false e)
    by Greater h e = absurd (true≢false e)

module _ {V : Type 0} (p : Point) where
  value_from : (m : List (Point × V)) → value_at p (from_on point_cmp (Included p) m) ≡ value_at p m
  value_from [] = refl
  value_from (x ∷ m) = by (value_from m) (is_reached point_cmp (Included p) x.0) refl
    where
      by : value_at p (from_on point_cmp (Included p) m) ≡ value_at p m → (b : Bool) → is_reached point_cmp (Included p) x.0 ≡ b → value_at p (cond b (x ∷ from_on point_cmp (Included p) m) (from_on point_cmp (Included p) m)) ≡ value_at p (x ∷ m)
      by ih true e = ap (cond (same_point p x.0) (Some x.1)) ih
      by ih false e = ih ∙ sym (ap (λ t. cond t (Some x.1) (value_at p m)) (not_reached p x.0 e))

  from_above : (k : Point) (m : List (Point × V)) → IsAbove point_cmp k m → IsAbove point_cmp k (from_on point_cmp (Included p) m)
  from_above k [] h = tt
  from_above k (x ∷ m) h =
      elim (is_reached point_cmp (Included p) x.0) as (λ b. IsAbove point_cmp k (cond b (x ∷ from_on point_cmp (Included p) m) (from_on point_cmp (Included p) m))) [
        | true ↦ (h.0, from_above k m h.1)
        | false ↦ from_above k m h.1
      ]

  from_ordered : (m : List (Point × V)) → IsOrdered point_cmp m → IsOrdered point_cmp (from_on point_cmp (Included p) m)
  unfolding IsStrictlySortedBy
  from_ordered [] s = tt
  from_ordered (x ∷ m) s =
      elim (is_reached point_cmp (Included p) x.0) as (λ b. IsOrdered point_cmp (cond b (x ∷ from_on point_cmp (Included p) m) (from_on point_cmp (Included p) m))) [
        | true ↦ (from_above x.0 m s.0, from_ordered m s.1)
        | false ↦ from_ordered m s.1
      ]

  reached_first : (m rest : List (Point × V)) (e : Point × V) → from_on point_cmp (Included p) m ≡ e ∷ rest → is_reached point_cmp (Included p) e.0 ≡ true
  reached_first [] rest e h = cc
  reached_first (x ∷ m) rest e h = by (λ g. reached_first m rest e g) (is_reached point_cmp (Included p) x.0) refl h
    where
      by : (from_on point_cmp (Included p) m ≡ e ∷ rest → is_reached point_cmp (Included p) e.0 ≡ true) → (b : Bool) → is_reached point_cmp (Included p) x.0 ≡ b → cond b (x ∷ from_on point_cmp (Included p) m) (from_on point_cmp (Included p) m) ≡ e ∷ rest → is_reached point_cmp (Included p) e.0 ≡ true
      by ih true i h = let same : x ≡ e = cc in ap (λ y. is_reached point_cmp (Included p) y.0) (sym same) ∙ i
      by ih false i h = ih h

  -- no pair from the point on
  pub value_none : (m : List (Point × V)) → from_on point_cmp (Included p) m ≡ [] → None ≡ value_at p m
  value_none m h = sym (sym (value_from m) ∙ ap (value_at p) h)

  module _ (m rest : List (Point × V)) (e : Point × V) (h : from_on point_cmp (Included p) m ≡ e ∷ rest) where
    -- the first pair from the point on is at the point
    pub value_first : same_point e.0 p ≡ true → Some e.1 ≡ value_at p m
    value_first s =
        let back : same_point p e.0 ≡ true = subst (λ k. same_point p k ≡ true) (sym (is_same s)) (same_itself p) in
        sym (sym (value_from m) ∙ ap (value_at p) h ∙ ap (λ t. cond t (Some e.1) (value_at p rest)) back)
      where
        is_same : same_point e.0 p ≡ true → e.0 ≡ p
        is_same s = same_is e.0 p s

    -- or after it
    pub value_later : IsOrdered point_cmp m → same_point e.0 p ≡ false → None ≡ value_at p m
    unfolding IsStrictlySortedBy
    value_later s n =
        let ordered : IsOrdered point_cmp (e ∷ rest) = subst (IsOrdered point_cmp) h (from_ordered m s) in
        let less : point_cmp p e.0 ≡ Less = by (point_cmp e.0 p) refl (reached_first m rest e h) in
        sym (sym (value_from m) ∙ ap (value_at p) h ∙ none_above p (e ∷ rest) (less, above_lower point_total p e.0 rest less ordered.0))
      where
        by : (o : Ordering) → point_cmp e.0 p ≡ o → not (is_lt o) ≡ true → point_cmp p e.0 ≡ Less
        by Less i r = absurd (true≢false (sym r))
        by Equal i r = absurd (true≢false (sym (sym (tie_same e.0 p) ∙ ap is_eq i) ∙ n))
        by Greater i r = point_total.antisymm p e.0 ∙ ap ordering_reverse i
