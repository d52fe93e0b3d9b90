-- What is kept at each point once areas are rebuilt.
use Rattle.std.proofs.Common.{◌≡◌, ◌≢◌, ℕ, Bool, true, false, not, List, [], ◌++◌, map, find, refl, sym, ap, ◌∙◌, Some, None, inl, inr, true≢false}
use Rattle.std.specs.List.{list_any}
use Rattle.std.specs.List.Sorted.{IsStrictlySortedBy}
use Rattle.un_geom.specs.declared.point.Point.{Point}
use Rattle.un_geom.specs.Rectangle.{Rectangle}
use Rattle.un_geom.specs.Places.{point_cmp, same_point}
use Rattle.un_schema.specs.Catalog.{Catalog}
use Rattle.un_defs.specs.declared.star.Star.{Star}
use Rattle.un_defs.specs.Features.{Features}
use Rattle.un_defs.specs.Orders.{same_port}
use Rattle.un_defs.specs.Ports.{nodes}
use Rattle.un_defs.specs.Star.{star, empty_star, standing_points, fresh}
use Rattle.un_defs.specs.Sound.{IsSound}
use Rattle.un_defs.specs.Laws.{IsBare}
use Rattle.un_defs.proofs.Rising.{Among, among-rising, among_from-rising, sorted-rising}
use Rattle.un_defs.proofs.Members.{among-map, among_from-map, among_cases, among_from-filter, list_any_from_among, among_from_contains}
use Rattle.un_defs.proofs.OrderLaws.{point_ties}
use Rattle.un_defs.proofs.Near.{false_unless}
use Rattle.un_defs.proofs.Standing.{entry_of}
use Rattle.un_defs.proofs.Empty.{empty_elsewhere}
use Rattle.un_index.specs.Kept.{stars_of}
use Rattle.un_core.specs.State.{State, fresh_star}
use Rattle.un_core.specs.Validation.{is_under, by_point, rebuilt}
use Rattle.un_core.proofs.LookUps.{Pairs, IsMap, kept_by, by_point_total, missing, stars_rising, stars_right, stars_left, missing_kept, stars_kept, stars_table, missing_table, table_map}

-- ---- the fresh topology

-- a point that is no standing one is bare
pub bare_unless : (F : Features) (p : Point) → list_any (λ q. same_point q p) (standing_points F) ≡ false → IsBare F p
bare_unless F p h n c = false_unless (same_point n.at p) (λ e.
    let at : Among (standing_points F) n.at = among-rising point_cmp (map (λ n. n.at) (nodes F)) (λ a b _ _ t. point_ties a b t) n.at
    (among-map (λ n. n.at) (nodes F) n (among_from_contains (nodes F) n c)) in
    true≢false (sym (list_any_from_among (λ q. same_point q p) (standing_points F) n.at at e) ∙ h))

pub stars_fresh : (S : Catalog) (F : Features) → IsSound S F → (p : Point) → stars_of (fresh S F) p ≡ star S F p
stars_fresh S F sound p = go (list_any (λ q. same_point q p) (standing_points F)) refl
  where
    go : (b : Bool) → list_any (λ q. same_point q p) (standing_points F) ≡ b → stars_of (fresh S F) p ≡ star S F p
    go true e = stars_table (star S F) (standing_points F) p e
    go false e = missing (fresh S F) p (missing_table (star S F) (standing_points F) p e) ∙ sym (empty_elsewhere S F sound p (bare_unless F p e))

-- a star of a standing point has an entry
pub nonempty_fresh : (S : Catalog) (F : Features) → IsSound S F → (q : Point) → Among (standing_points F) q → star S F q ≢ empty_star
nonempty_fresh S F sound q h e =
    let r = among_from-map (λ n. n.at) (nodes F) q (among_from-rising point_cmp (map (λ n. n.at) (nodes F)) q h) in
    let found = entry_of S F sound [] r.0 r.1 in
    some_none (sym found.1 ∙ ap (λ spots. find (λ s. same_port s.port r.0.port) spots) (ap (λ star. star.spots) (ap (star S F) r.2 ∙ e)))
  where
    some_none : {A : Type 0} {x : A} → Some x ≡ None → ⊥
    some_none e = cc

-- ---- what is kept once the areas are rebuilt

module _ (s : State) (areas : List (ℕ × Rectangle)) where
  abbrev outside : Pairs
  outside = kept_by (λ p. not (is_under areas p)) s.kept

  abbrev inside : Pairs
  inside = kept_by (is_under areas) (fresh s.setup.schema s.features)

  -- no point has a star of both sorts
  pub parts_map : IsMap s.kept → IsMap (outside ++ inside)
  parts_map ties a b k l e =
      elim (among_cases outside inside a k) [
        | inl i ↦ elim (among_cases outside inside b l) [
          | inl j ↦ ties a b (from_outside a i).0 (from_outside b j).0 e
          | inr j ↦ absurd (both (point_ties a.0 b.0 e) (from_outside a i).1 (from_inside b j).1)
        ]
        | inr i ↦ elim (among_cases outside inside b l) [
          | inl j ↦ absurd (both (sym (point_ties a.0 b.0 e)) (from_outside b j).1 (from_inside a i).1)
          | inr j ↦ table_map (star s.setup.schema s.features) (standing_points s.features) a b (from_inside a i).0 (from_inside b j).0 e
        ]
      ]
    where
      from_outside : (pair : Point × Star) → Among outside pair → Among s.kept pair × (not (is_under areas pair.0) ≡ true)
      from_outside pair = among_from-filter (λ pair. not (is_under areas pair.0)) s.kept pair

      from_inside : (pair : Point × Star) → Among inside pair → Among (fresh s.setup.schema s.features) pair × (is_under areas pair.0 ≡ true)
      from_inside pair = among_from-filter (λ pair. is_under areas pair.0) (fresh s.setup.schema s.features) pair

      both : {p q : Point} → p ≡ q → not (is_under areas p) ≡ true → is_under areas q ≡ true → ⊥
      both e out held = true≢false (sym out ∙ ap (λ p. not (is_under areas p)) e ∙ ap not held)

  pub rebuilt_under : IsSound s.setup.schema s.features → IsMap s.kept → (p : Point) → is_under areas p ≡ true → stars_of (rebuilt s areas) p ≡ fresh_star s p
  rebuilt_under sound ties p e =
      stars_rising (outside ++ inside) (parts_map ties) p
      ∙ stars_right outside inside p (missing_kept (λ p. not (is_under areas p)) s.kept p (ap not e))
      ∙ stars_kept (is_under areas) (fresh s.setup.schema s.features) p e
      ∙ stars_fresh s.setup.schema s.features sound p

  pub rebuilt_elsewhere : IsMap s.kept → (p : Point) → is_under areas p ≡ false → stars_of (rebuilt s areas) p ≡ stars_of s.kept p
  rebuilt_elsewhere ties p e =
      stars_rising (outside ++ inside) (parts_map ties) p
      ∙ stars_left outside inside p (missing_kept (is_under areas) (fresh s.setup.schema s.features) p e)
      ∙ stars_kept (λ p. not (is_under areas p)) s.kept p (ap not e)

  pub rebuilt_sorted : IsStrictlySortedBy by_point (rebuilt s areas)
  rebuilt_sorted = sorted-rising by_point_total (outside ++ inside)

  -- a pair of either sort tells something
  pub rebuilt_nonempty : IsSound s.setup.schema s.features → ((pair : Point × Star) → Among s.kept pair → pair.1 ≢ empty_star)
      → (pair : Point × Star) → Among (rebuilt s areas) pair → pair.1 ≢ empty_star
  rebuilt_nonempty sound nonempty pair h =
      elim (among_cases outside inside pair (among_from-rising by_point (outside ++ inside) pair h)) [
        | inl i ↦ nonempty pair (among_from-filter (λ pair. not (is_under areas pair.0)) s.kept pair i).0
        | inr i ↦ λ e.
            let r = among_from-map (λ p. (p, star s.setup.schema s.features p)) (standing_points s.features) pair (among_from-filter (λ pair. is_under areas pair.0) (fresh s.setup.schema s.features) pair i).0 in
            nonempty_fresh s.setup.schema s.features sound r.0 r.1 (ap (λ pair. pair.1) r.2 ∙ e)
      ]
