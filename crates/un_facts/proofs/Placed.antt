-- The points of a grid that a rectangle covers are those of the features at which something stands.
use Rattle.std.proofs.Common.{◌≡◌, Bool, true, false, cond, List, [], ◌∷◌, map, Some, None, unwrap_or, refl, sym, ap, subst, ◌∙◌, ◌⊎◌, inl, inr}
use Rattle.std.specs.Map.{lookup}
use Rattle.un_geom.specs.declared.point.Point.{Point}
use Rattle.un_geom.specs.Rectangle.{Rectangle}
use Rattle.un_geom.specs.Places.{same_point, covers}
use Rattle.un_points.specs.PointMaps.{value_at, covered}
use Rattle.un_defs.specs.declared.port.Port.{Port}
use Rattle.un_defs.specs.Features.{Features}
use Rattle.un_defs.specs.Ports.{nodes, ports, standing_at}
use Rattle.un_defs.specs.Laws.{IsBare}
use Rattle.un_defs.proofs.Rising.{Among, among-rising}
use Rattle.un_defs.proofs.Members.{among_from-map, among-map, among_from-filter, among-filter, among_from_contains, contains_from_among}
use Rattle.un_defs.proofs.OrderLaws.{port_ties}
use Rattle.un_defs.proofs.Unique.{point_same}
use Rattle.un_defs.proofs.Near.{false_unless}
use Rattle.un_grid.specs.Grids.{IsGridOf}
use Rattle.un_facts.specs.Places.{ArePlaces}

-- a point has a value, or none
module _ {V : Type 0} where
  pub is_there : (m : List (Point × V)) (p : Point) → Among (map (λ e. e.0) m) p ⊎ (value_at p m ≡ None)
  is_there [] p = inr refl
  is_there (e ∷ m) p = go (same_point p e.0) refl (is_there m p)
    where
      go : (b : Bool) → same_point p e.0 ≡ b → Among (map (λ e. e.0) m) p ⊎ (value_at p m ≡ None)
          → ((e.0 ≡ p) ⊎ Among (map (λ e. e.0) m) p) ⊎ (cond b (Some e.1) (lookup (same_point p) m) ≡ None)
      go true t rest = inl (inl (sym (point_same p e.0 t)))
      go false t rest = elim rest [ inl i ↦ inl (inr i) | inr n ↦ inr n ]

  pub covered_there : (extent : Rectangle) (m : List (Point × V)) (p : Point) → covers extent p ≡ true → Among (map (λ e. e.0) m) p → Among (map (λ e. e.0) (covered extent m)) p
  covered_there extent m p c i =
      let r = among_from-map (λ e. e.0) m p i in
      subst (Among (map (λ e. e.0) (covered extent m))) r.2
      (among-map (λ e. e.0) (covered extent m) r.0 (among-filter (λ e. covers extent e.0) m r.0 r.1 (ap (covers extent) r.2 ∙ c)))

  pub there_covered : (extent : Rectangle) (m : List (Point × V)) (p : Point) → Among (map (λ e. e.0) (covered extent m)) p → covers extent p ≡ true
  there_covered extent m p i =
      let r = among_from-map (λ e. e.0) (covered extent m) p i in
      ap (covers extent) (sym r.2) ∙ (among_from-filter (λ e. covers extent e.0) m r.0 r.1).1

-- where no port is listed, nothing stands
bare : (F : Features) (p : Point) → ports F p ≡ [] → IsBare F p
bare F p none n h = false_unless (same_point n.at p) (λ t.
    let i = among-rising _ (map (λ n. n.port) (standing_at p (nodes F))) (λ a b _ _ e. port_ties a b e) n.port
    (among-map (λ n. n.port) (standing_at p (nodes F)) n (among-filter (λ n. same_point n.at p) (nodes F) n (among_from_contains (nodes F) n h) t)) in
    absurd (subst (λ ps. Among ps n.port) none i))

pub are_places : (grid : List (Point × List Port)) (F : Features) (extent : Rectangle) → IsGridOf grid F → ArePlaces F extent (map (λ e. e.0) (covered extent grid))
are_places grid F extent stands = record {
  inside = λ p h. there_covered extent grid p (among_from_contains (map (λ e. e.0) (covered extent grid)) p h);
  whole = λ p c. elim (is_there grid p) [
    | inl i ↦ inl (contains_from_among (map (λ e. e.0) (covered extent grid)) p (covered_there extent grid p c i))
    | inr n ↦ inr (bare F p (sym (stands p) ∙ ap (λ o. unwrap_or o []) n))
  ];
}
