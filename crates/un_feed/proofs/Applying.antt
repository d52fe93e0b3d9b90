-- The differences of two kept topologies lead from the one to the other.
use Rattle.std.proofs.Common.{◌≡◌, Bool, true, false, not, cond, List, [], ◌∷◌, ◌++◌, map, filter, Option, Some, None, ◌⊎◌, inl, inr, refl, sym, ap, ◌∙◌, true≢false}
use Rattle.std.specs.Map.{keys_of}
use Rattle.std.specs.List.Sorted.{IsStrictlySortedBy}
use Rattle.std.proofs.lemmas.List.Kept.{IsStrictlySortedBy-filter}
use Rattle.un_geom.specs.declared.point.Point.{Point}
use Rattle.un_geom.specs.Places.{point_cmp, same_point}
use Rattle.un_pages.specs.Pairs.{IsOrdered}
use Rattle.un_pages.proofs.Ordered.{insert_ordered, remove_ordered}
use Rattle.un_points.specs.PointMaps.{value_at}
use Rattle.un_points.proofs.Lookups.{same_is, same_itself, point_total, value_put, value_cut}
use Rattle.un_defs.specs.declared.star.Star.{Star}
use Rattle.un_defs.proofs.OrderLaws.{point_ties}
use Rattle.un_defs.proofs.Rising.{Among, among-rising, sorted-rising}
use Rattle.un_defs.proofs.Members.{among_left, among_right, among-filter}
use Rattle.un_defs.proofs.SameStar.{stars}
use Rattle.un_feed.specs.Differences.{Kept, Difference, same_stars, points_of, differences, with_difference, applied}
use Rattle.un_feed.specs.Laws.{AppliedDifference}
use Rattle.un_feed.proofs.SameMaps.{one_map}

-- ---- the points at which two topologies differ

pub same_stars_is : (a b : Option Star) → same_stars a b ≡ true → a ≡ b
same_stars_is None None e = refl
same_stars_is None (Some b) e = absurd (true≢false (sym e))
same_stars_is (Some a) None e = absurd (true≢false (sym e))
same_stars_is (Some a) (Some b) e = ap Some ((stars a b).0 e)

pub same_stars_itself : (a : Option Star) → same_stars a a ≡ true
same_stars_itself None = refl
same_stars_itself (Some a) = (stars a a).1 refl

abbrev pub changed : Kept → Kept → Point → Bool
changed a b p = not (same_stars (value_at p a) (value_at p b))

pub not_changed : (a b : Kept) (p : Point) → changed a b p ≡ false → value_at p a ≡ value_at p b
not_changed a b p e = same_stars_is (value_at p a) (value_at p b) (by (same_stars (value_at p a) (value_at p b)) e)
  where
    by : (s : Bool) → not s ≡ false → s ≡ true
    by true e = refl
    by false e = absurd (true≢false e)

pub changed_differs : (a b : Kept) (p : Point) → changed a b p ≡ true → value_at p a ≡ value_at p b → ⊥
changed_differs a b p e same =
    let one : same_stars (value_at p a) (value_at p b) ≡ true = ap (same_stars (value_at p a)) (sym same) ∙ same_stars_itself (value_at p a) in
    true≢false (sym e ∙ ap not one)

has_key : (m : Kept) (q : Point) (star : Star) → value_at q m ≡ Some star → Among (keys_of m) q
has_key [] q star e = cc
has_key (x ∷ m) q star e = by (λ f. has_key m q star f) (same_point q x.0) refl e
  where
    by : (value_at q m ≡ Some star → Among (keys_of m) q) → (b : Bool) → same_point q x.0 ≡ b → cond b (Some x.1) (value_at q m) ≡ Some star → Among (keys_of (x ∷ m)) q
    by ih true s e = inl (sym (same_is q x.0 s))
    by ih false s e = inr (ih e)

pub among_points : (a b : Kept) (q : Point) → changed a b q ≡ true → Among (points_of a b) q
among_points a b q e =
    among-rising point_cmp (keys_of a ++ keys_of b) (λ x y _ _ t. point_ties x y t) q (by (value_at q a) (value_at q b) refl refl)
  where
    by : (o p : Option Star) → value_at q a ≡ o → value_at q b ≡ p → Among (keys_of a ++ keys_of b) q
    by None None f g = absurd (changed_differs a b q e (f ∙ sym g))
    by None (Some star) f g = among_right (keys_of a) (keys_of b) q (has_key b q star g)
    by (Some star) p f g = among_left (keys_of a) (keys_of b) q (has_key a q star f)

pub points_sorted : (a b : Kept) → IsStrictlySortedBy point_cmp (filter (changed a b) (points_of a b))
points_sorted a b = IsStrictlySortedBy-filter point_cmp (changed a b) (points_of a b) (sorted-rising point_total (keys_of a ++ keys_of b))

-- ---- pairs put in

module _ (p : Point) where
  value_with : (star : Option Star) (kept : Kept) (q : Point) → IsOrdered point_cmp kept → value_at q (with_difference kept (p, star)) ≡ cond (same_point q p) star (value_at q kept)
  value_with None kept q s = value_cut p q kept s
  value_with (Some star) kept q s = value_put p q kept star

  pub ordered_with : (star : Option Star) (kept : Kept) → IsOrdered point_cmp kept → IsOrdered point_cmp (with_difference kept (p, star))
  ordered_with None kept s = remove_ordered point_total p kept s
  ordered_with (Some star) kept s = insert_ordered point_total p kept star s

pub ordered-applied : (ds : List Difference) (kept : Kept) → IsOrdered point_cmp kept → IsOrdered point_cmp (applied kept ds)
ordered-applied [] kept s = s
ordered-applied (d ∷ ds) kept s = ordered-applied ds (with_difference kept d) (ordered_with d.0 d.1 kept s)

module _ (b : Kept) where
  abbrev at : Point → Difference
  at p = (p, value_at p b)

  -- the topology has the other's star at each point but those of the list
  abbrev AgreesBut : Kept → List Point → Type 0
  AgreesBut kept ps = (q : Point) → (value_at q kept ≡ value_at q b) ⊎ Among ps q

  one_put : (p : Point) (ps : List Point) (kept : Kept) → IsOrdered point_cmp kept → AgreesBut kept (p ∷ ps) → AgreesBut (with_difference kept (at p)) ps
  one_put p ps kept s h q = by (same_point q p) refl
    where
      by : (t : Bool) → same_point q p ≡ t → (value_at q (with_difference kept (at p)) ≡ value_at q b) ⊎ Among ps q
      by true e = inl (value_with p (value_at p b) kept q s ∙ ap (λ t. cond t (value_at p b) (value_at q kept)) e ∙ ap (λ k. value_at k b) (sym (same_is q p e)))
      by false e =
          let other : value_at q (with_difference kept (at p)) ≡ value_at q kept = value_with p (value_at p b) kept q s ∙ ap (λ t. cond t (value_at p b) (value_at q kept)) e in
          elim (h q) [
            | inl g ↦ inl (other ∙ g)
            | inr g ↦ elim g [
              | inl i ↦ absurd (true≢false (sym (same_itself q) ∙ ap (same_point q) (sym i) ∙ e))
              | inr j ↦ inr j
            ]
          ]

  all_put : (ps : List Point) (kept : Kept) → IsOrdered point_cmp kept → AgreesBut kept ps → (q : Point) → value_at q (applied kept (map at ps)) ≡ value_at q b
  all_put [] kept s h q = elim (h q) [ inl e ↦ e | inr g ↦ absurd g ]
  all_put (p ∷ ps) kept s h q = all_put ps (with_difference kept (at p)) (ordered_with p (value_at p b) kept s) (one_put p ps kept s h) q

pub applied_differences : AppliedDifference
applied_differences a b s t =
    one_map (applied a (differences a b)) b (ordered-applied (differences a b) a s) t
    (all_put b (filter (changed a b) (points_of a b)) a s (λ q. by q (changed a b q) refl))
  where
    by : (q : Point) (c : Bool) → changed a b q ≡ c → (value_at q a ≡ value_at q b) ⊎ Among (filter (changed a b) (points_of a b)) q
    by q true e = inr (among-filter (changed a b) (points_of a b) q (among_points a b q e) e)
    by q false e = inl (not_changed a b q e)
