-- Two maps from points with the same value at each point are one.
use Rattle.std.proofs.Common.{◌≡◌, Bool, true, false, cond, List, [], ◌∷◌, Some, None, refl, sym, ap, subst, ◌∙◌}
use Rattle.std.specs.declared.cmp.Ordering.{Ordering}
use Rattle.std.specs.declared.cmp.Ordering.TheVariants.{Less, Equal, Greater}
use Rattle.std.specs.Ordering.{is_eq, ordering_reverse}
use Rattle.std.specs.List.Sorted.{IsStrictlySortedBy}
use Rattle.un_geom.specs.declared.point.Point.{Point}
use Rattle.un_geom.specs.Places.{point_cmp, same_point}
use Rattle.un_pages.specs.Pairs.{IsOrdered, IsAbove}
use Rattle.un_pages.proofs.Ordered.{above_lower}
use Rattle.un_points.specs.PointMaps.{value_at}
use Rattle.un_points.proofs.Lookups.{tie_same, same_is, same_itself, point_total}
use Rattle.un_defs.proofs.OrderLaws.{point_ties}
use Rattle.un_defs.proofs.LinkCases.{some_same}

module _ {V : Type 0} where
  pub none_above : (k : Point) (m : List (Point × V)) → IsAbove point_cmp k m → value_at k m ≡ None
  none_above k [] h = refl
  none_above k (x ∷ m) h =
      let off : same_point k x.0 ≡ false = sym (tie_same k x.0) ∙ ap is_eq h.0 in
      ap (λ b. cond b (Some x.1) (value_at k m)) off ∙ none_above k m h.1

  pub at_head : (x : Point × V) (m : List (Point × V)) → value_at x.0 (x ∷ m) ≡ Some x.1
  at_head x m = ap (λ b. cond b (Some x.1) (value_at x.0 m)) (same_itself x.0)

  past_head : (q : Point) (x : Point × V) (m : List (Point × V)) → same_point q x.0 ≡ false → value_at q (x ∷ m) ≡ value_at q m
  past_head q x m e = ap (λ b. cond b (Some x.1) (value_at q m)) e

  none_past_head : (q : Point) (x : Point × V) (m : List (Point × V)) → IsOrdered point_cmp (x ∷ m) → same_point q x.0 ≡ true → value_at q m ≡ None
  unfolding IsStrictlySortedBy
  none_past_head q x m s e = subst (λ k. value_at k m ≡ None) (sym (same_is q x.0 e)) (none_above x.0 m s.0)

  none_before : (k : Point) (x : Point × V) (m : List (Point × V)) → IsOrdered point_cmp (x ∷ m) → point_cmp k x.0 ≡ Less → value_at k (x ∷ m) ≡ None
  unfolding IsStrictlySortedBy
  none_before k x m s h = none_above k (x ∷ m) (h, above_lower point_total k x.0 m h s.0)

  module _ (x y : Point × V) (m n : List (Point × V)) (s : IsOrdered point_cmp (x ∷ m)) (t : IsOrdered point_cmp (y ∷ n)) (h : (q : Point) → value_at q (x ∷ m) ≡ value_at q (y ∷ n)) where
    same_keys : (o : Ordering) → point_cmp x.0 y.0 ≡ o → x.0 ≡ y.0
    same_keys Less e = let f : Some x.1 ≡ None = sym (at_head x m) ∙ h x.0 ∙ none_before x.0 y n t e in cc
    same_keys Equal e = point_ties x.0 y.0 e
    same_keys Greater e =
        let back : point_cmp y.0 x.0 ≡ Less = point_total.antisymm y.0 x.0 ∙ ap ordering_reverse e in
        let f : Some y.1 ≡ None = sym (at_head y n) ∙ sym (h y.0) ∙ none_before y.0 x m s back in cc

    keys : x.0 ≡ y.0
    keys = same_keys (point_cmp x.0 y.0) refl

    values : x.1 ≡ y.1
    values = some_same x.1 y.1 (sym (at_head x m) ∙ h x.0 ∙ ap (λ k. value_at k (y ∷ n)) keys ∙ at_head y n)

    rests : (q : Point) → value_at q m ≡ value_at q n
    rests q = by (same_point q x.0) refl
      where
        by : (b : Bool) → same_point q x.0 ≡ b → value_at q m ≡ value_at q n
        by true e = none_past_head q x m s e ∙ sym (none_past_head q y n t (sym (ap (same_point q) keys) ∙ e))
        by false e = sym (past_head q x m e) ∙ h q ∙ past_head q y n (sym (ap (same_point q) keys) ∙ e)

  pub one_map : (m n : List (Point × V)) → IsOrdered point_cmp m → IsOrdered point_cmp n → ((q : Point) → value_at q m ≡ value_at q n) → m ≡ n
  unfolding IsStrictlySortedBy
  one_map [] [] s t h = refl
  one_map [] (y ∷ n) s t h = let f : None ≡ Some y.1 = h y.0 ∙ at_head y n in cc
  one_map (x ∷ m) [] s t h = let f : Some x.1 ≡ None = sym (at_head x m) ∙ h x.0 in cc
  one_map (x ∷ m) (y ∷ n) s t h =
      let k : x.0 ≡ y.0 = keys x y m n s t h in
      let v : x.1 ≡ y.1 = values x y m n s t h in
      let r : m ≡ n = one_map m n s.1 t.1 (rests x y m n s t h) in
      λ i. (k i, v i) ∷ r i
