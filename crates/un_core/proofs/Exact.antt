-- What is said to be reached is what walks reach, and what is listed are the errors of the stars.
use Rattle.std.proofs.Common.{◌≡◌, inl, inr, List, filter, Contains, IsTrue, ap, subst}
use Rattle.un_geom.specs.declared.point.Point.{Point}
use Rattle.un_geom.specs.Rectangle.{Rectangle}
use Rattle.un_geom.specs.Places.{point_cmp, covers}
use Rattle.un_defs.specs.declared.star.Star.{Star}
use Rattle.un_defs.specs.declared.star.TopoError.{TopoError}
use Rattle.un_defs.specs.Orders.{rising}
use Rattle.un_defs.proofs.Rising.{Among, among-rising}
use Rattle.un_defs.proofs.Members.{among-map, among_from-map, among-filter, among_from-filter, among-flat_map, among_from-flat_map, contains_from_among, among_from_contains}
use Rattle.un_defs.proofs.OrderLaws.{point_ties}
use Rattle.un_core.specs.History.{after_all}
use Rattle.un_core.specs.Walked.{Survey}
use Rattle.un_core.specs.Listed.{errors_at, errors_in}
use Rattle.un_core.specs.Answers.{kept_survey, fresh_survey}
use Rattle.un_core.specs.HistoryAnswers.{history_survey, fresh_after}
use Rattle.un_core.specs.Walks.{IsExact, WalkLaw}
use Rattle.un_core.proofs.Opening.{all_states}
use Rattle.un_core.proofs.Asked.{kept_points}
use Rattle.un_core.proofs.Grounds.{HasPoints, reached_reaches, fresh_points, history_points}

module _ (v : Survey) (has : HasPoints v) (extent : Rectangle) (p : Point) (e : TopoError) where
  abbrev inside : List Point
  inside = filter (covers extent) (rising point_cmp v.points)

  -- a listed error is one of a star that the extent covers
  there : Among (errors_in v extent) (p, e) → IsTrue (covers extent p) × Contains (v.topology.stars p).errors e
  there listed =
      let at = among_from-flat_map (errors_at v.topology) inside (p, e) listed in
      let q = among_from-filter (covers extent) (rising point_cmp v.points) at.0 at.1 in
      let error = among_from-map (λ e. (at.0, e)) (v.topology.stars at.0).errors (p, e) at.2 in
      let here : at.0 ≡ p = ap (λ (pair : Point × TopoError). pair.0) error.2 in
      let same : error.0 ≡ e = ap (λ (pair : Point × TopoError). pair.1) error.2 in (
        subst (λ q. IsTrue (covers extent q)) here q.1,
        subst (λ q. Contains (v.topology.stars q).errors e) here (contains_from_among (v.topology.stars at.0).errors e (subst (Among (v.topology.stars at.0).errors) same error.1)),
      )

  -- and each such error is listed
  listed : IsTrue (covers extent p) → Among (v.topology.stars p).errors e → Among (errors_in v extent) (p, e)
  listed covered error = elim (has p) [
    | inl i ↦ among-flat_map (errors_at v.topology) inside p (p, e)
        (among-filter (covers extent) (rising point_cmp v.points) p (among-rising point_cmp v.points (λ a b _ _ t. point_ties a b t) p i) covered)
        (among-map (λ e. (p, e)) (v.topology.stars p).errors e error)
    | inr none ↦ absurd (subst (λ (star : Star). Among star.errors e) none error)
  ]

pub exact : (v : Survey) → HasPoints v → IsExact v
exact v has = record {
  walks = λ B mode starts. reached_reaches v has B mode starts;
  errors = λ extent p e. (
    (λ c. there v has extent p e (among_from_contains (errors_in v extent) (p, e) c)),
    (λ both. contains_from_among (errors_in v extent) (p, e) (listed v has extent p e both.0 (among_from_contains (v.topology.stars p).errors e both.1))),
  );
}

pub walks_are_exact : WalkLaw
walks_are_exact = record {
  kept = λ s. exact (kept_survey s) (kept_points s.kept);
  fresh = λ s is. exact (fresh_survey s) (fresh_points s.setup.schema s.features is.sound);
  history = λ S history may. exact (history_survey S history) (history_points S history may);
  fresh_history = λ S history may.
      let s = after_all S history in
      exact (fresh_after S history) (fresh_points s.setup.schema s.features (all_states S history may).sound);
}
