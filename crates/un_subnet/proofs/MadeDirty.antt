-- The test of changes tells just which rows become dirty.
use Rattle.std.proofs.Common.{◌≡◌, ◌≢◌, ℕ, Bool, true, false, not, ◌||◌, ◌⊎◌, List, filter, flat_map, inl, inr, refl, sym, ap, subst, ◌∙◌, true≢false}
use Rattle.std.specs.List.{list_any}
use Rattle.un_geom.specs.declared.point.Point.{Point}
use Rattle.un_geom.specs.Places.{point_cmp, same_point}
use Rattle.un_defs.specs.declared.star.Star.{Star}
use Rattle.un_defs.specs.Features.{is_of_subnet}
use Rattle.un_defs.specs.Orders.{rising}
use Rattle.un_defs.proofs.Rising.{Among, among-rising, among_from-rising}
use Rattle.un_defs.proofs.OrderLaws.{point_ties}
use Rattle.un_defs.proofs.Members.{among_left, among_right, among_cases, among_from_contains, contains_from_among, among_from_list_any, list_any_from_among, among-filter, among_from-filter, among-flat_map, among_from-flat_map}
use Rattle.un_defs.proofs.Unique.{point_same, point_itself}
use Rattle.un_defs.specs.SameStar.{same_star}
use Rattle.un_subnet.specs.Changes.{controllers_in, has_controller_of, IsMadeDirty, is_changed, controllers_at, has_any, changes_at, is_made_dirty}
use Rattle.un_subnet.specs.Laws.{MadeDirtyLaw, SameDirtyLaw}
use Rattle.un_subnet.proofs.Either.{same_truth}
use Rattle.un_defs.proofs.SameStar.{stars}

either : (a b : Bool) → (a || b) ≡ true → (a ≡ true) ⊎ (b ≡ true)
either true b e = inl refl
either false b e = inr e

first_holds : (a b : Bool) → a ≡ true → (a || b) ≡ true
first_holds true b e = refl
first_holds false b e = absurd (true≢false (sym e))

second_holds : (a b : Bool) → b ≡ true → (a || b) ≡ true
second_holds true b e = refl
second_holds false b e = e

-- ---- stars that differ

differ : (a b : Star) → not (same_star a b) ≡ true → a ≢ b
differ a b e s = true≢false (sym e ∙ ap not ((stars a b).1 s))

told : (a b : Star) → a ≢ b → not (same_star a b) ≡ true
told a b d = go (same_star a b) refl
  where
    go : (t : Bool) → same_star a b ≡ t → not t ≡ true
    go true e = absurd (d ((stars a b).0 e))
    go false e = refl

module _ (tier : ℕ) (subnet : List ℕ) (points looked : List Point) (before after : Point → Star) where
  abbrev changed : List Point
  changed = filter (is_changed before after) looked

  abbrev in_order : List Point
  in_order = rising point_cmp changed

  abbrev at_point : Bool
  at_point = has_any in_order points

  abbrev by_controller : Bool
  by_controller = list_any (is_of_subnet tier subnet) (flat_map (controllers_at before after) changed)

  -- a change at one of the row's points
  from_point : at_point ≡ true → IsMadeDirty tier subnet points before after
  from_point e =
      let p = among_from_list_any (λ p. list_any (same_point p) points) in_order e in
      let q = among_from_list_any (same_point p.0) points p.2 in
      record {
        at = p.0;
        changed = differ (before p.0) (after p.0) (among_from-filter (is_changed before after) looked p.0 (among_from-rising point_cmp changed p.0 p.1)).1;
        concerns = inl (contains_from_among points p.0 (subst (Among points) (sym (point_same p.0 q.0 q.2)) q.1));
      }

  -- a change of a star that has a controller of the subnetwork before or after
  from_controller : by_controller ≡ true → IsMadeDirty tier subnet points before after
  from_controller e =
      let c = among_from_list_any (is_of_subnet tier subnet) (flat_map (controllers_at before after) changed) e in
      let p = among_from-flat_map (controllers_at before after) changed c.0 c.1 in
      record {
        at = p.0;
        changed = differ (before p.0) (after p.0) (among_from-filter (is_changed before after) looked p.0 p.1).1;
        concerns = inr (elim (among_cases (controllers_in (before p.0)) (controllers_in (after p.0)) c.0 p.2) [
          | inl i ↦ inl (list_any_from_among (is_of_subnet tier subnet) (controllers_in (before p.0)) c.0 i c.2)
          | inr i ↦ inr (list_any_from_among (is_of_subnet tier subnet) (controllers_in (after p.0)) c.0 i c.2)
        ]);
      }

  module _ (whole : (p : Point) → before p ≢ after p → Among looked p) where
    is_there : (p : Point) → before p ≢ after p → Among changed p
    is_there p d = among-filter (is_changed before after) looked p (whole p d) (told (before p) (after p) d)

    to_point : (p : Point) → before p ≢ after p → Among points p → at_point ≡ true
    to_point p d i =
        list_any_from_among (λ p. list_any (same_point p) points) in_order p (among-rising point_cmp changed (λ a b _ _ e. point_ties a b e) p (is_there p d))
        (list_any_from_among (same_point p) points p i (point_itself p))

    to_before : (p : Point) → before p ≢ after p → has_controller_of tier subnet (before p) ≡ true → by_controller ≡ true
    to_before p d e =
        let c = among_from_list_any (is_of_subnet tier subnet) (controllers_in (before p)) e in
        list_any_from_among (is_of_subnet tier subnet) (flat_map (controllers_at before after) changed) c.0
        (among-flat_map (controllers_at before after) changed p c.0 (is_there p d) (among_left (controllers_in (before p)) (controllers_in (after p)) c.0 c.1)) c.2

    to_after : (p : Point) → before p ≢ after p → has_controller_of tier subnet (after p) ≡ true → by_controller ≡ true
    to_after p d e =
        let c = among_from_list_any (is_of_subnet tier subnet) (controllers_in (after p)) e in
        list_any_from_among (is_of_subnet tier subnet) (flat_map (controllers_at before after) changed) c.0
        (among-flat_map (controllers_at before after) changed p c.0 (is_there p d) (among_right (controllers_in (before p)) (controllers_in (after p)) c.0 c.1)) c.2

    back : IsMadeDirty tier subnet points before after → (at_point || by_controller) ≡ true
    back made = elim made.concerns [
      | inl i ↦ first_holds at_point by_controller (to_point made.at made.changed (among_from_contains points made.at i))
      | inr r ↦ elim r [
        | inl t ↦ second_holds at_point by_controller (to_before made.at made.changed t)
        | inr t ↦ second_holds at_point by_controller (to_after made.at made.changed t)
      ]
    ]

  forth : (at_point || by_controller) ≡ true → IsMadeDirty tier subnet points before after
  forth e = elim (either at_point by_controller e) [ inl t ↦ from_point t | inr t ↦ from_controller t ]

pub made_dirty : MadeDirtyLaw
made_dirty tier subnet points looked before after whole = (
  forth tier subnet points looked before after,
  back tier subnet points looked before after (λ p d. among_from_contains looked p (whole p d)),
)

pub same_dirty : SameDirtyLaw
same_dirty tier subnet points looked other before after whole all =
    let one = made_dirty tier subnet points looked before after whole in
    let two = made_dirty tier subnet points other before after all in
    same_truth (is_made_dirty tier subnet points (changes_at before after looked)) (is_made_dirty tier subnet points (changes_at before after other))
    (λ e. two.1 (one.0 e)) (λ e. one.1 (two.0 e))
