-- What a validation does, and the errors of which it tells.
use Rattle.std.proofs.Common.{◌≡◌, ◌≢◌, Bool, true, false, map, refl, sym, ap, ◌∙◌}
use Rattle.std.proofs.lemmas.List.Kept.{IsStrictlySortedBy-filter}
use Rattle.un_geom.specs.declared.point.Point.{Point}
use Rattle.un_geom.specs.Rectangle.{Rectangle}
use Rattle.un_defs.specs.Ports.{nodes}
use Rattle.un_defs.specs.Star.{star, empty_star, standing_points, fresh}
use Rattle.un_defs.proofs.Rising.{sorted-rising}
use Rattle.un_defs.proofs.Members.{among_from-map, among_from-filter}
use Rattle.un_defs.proofs.OrderLaws.{point_total}
use Rattle.un_defs.proofs.Unique.{from_all}
use Rattle.un_index.specs.Kept.{stars_of}
use Rattle.un_core.specs.State.{State}
use Rattle.un_core.specs.Validation.{by_point, met, is_under, rebuilt, count_errors}
use Rattle.un_core.specs.Cover.{IsState}
use Rattle.un_core.specs.Clearing.{ValidationLaw}
use Rattle.un_core.proofs.LookUps.{Pairs, kept_by, sorted_map, missing, missing_kept, stars_kept}
use Rattle.un_core.proofs.Nonempty.{table_sorted}
use Rattle.un_core.proofs.Canonical.{AreNonempty, canonical}
use Rattle.un_core.proofs.Marking.{are_marked}
use Rattle.un_core.proofs.Rebuilding.{rebuilt_under, rebuilt_elsewhere, rebuilt_sorted, rebuilt_nonempty, stars_fresh, nonempty_fresh}

module _ (s : State) (is : IsState s) (extent : Rectangle) where
  abbrev under : Point → Bool
  under = is_under (met extent s.areas)

  abbrev after : Pairs
  after = rebuilt s (met extent s.areas)

  abbrev afresh : Pairs
  afresh = fresh s.setup.schema s.features

  same_stars : (p : Point) → stars_of (kept_by under after) p ≡ stars_of (kept_by under afresh) p
  same_stars p = go (under p) refl
    where
      go : (b : Bool) → under p ≡ b → stars_of (kept_by under after) p ≡ stars_of (kept_by under afresh) p
      go true e =
          stars_kept under after p e ∙ rebuilt_under s (met extent s.areas) is.sound (sorted_map s.kept is.sorted) p e
          ∙ sym (stars_kept under afresh p e ∙ stars_fresh s.setup.schema s.features is.sound p)
      go false e = missing (kept_by under after) p (missing_kept under after p e) ∙ sym (missing (kept_by under afresh) p (missing_kept under afresh p e))

  after_nonempty : AreNonempty (kept_by under after)
  after_nonempty pair i =
      rebuilt_nonempty s (met extent s.areas) is.sound (λ pair h. from_all (λ pair. pair.1 ≢ empty_star) s.kept is.nonempty pair h) pair
      (among_from-filter (λ pair. under pair.0) after pair i).0

  afresh_nonempty : AreNonempty (kept_by under afresh)
  afresh_nonempty pair i e =
      let r = among_from-map (λ p. (p, star s.setup.schema s.features p)) (standing_points s.features) pair (among_from-filter (λ pair. under pair.0) afresh pair i).0 in
      nonempty_fresh s.setup.schema s.features is.sound r.0 r.1 (ap (λ pair. pair.1) r.2 ∙ e)

  -- under the areas the kept stars are those of all features
  same_under : kept_by under after ≡ kept_by under afresh
  same_under =
      canonical (kept_by under after) (kept_by under afresh)
      (IsStrictlySortedBy-filter by_point (λ pair. under pair.0) after (rebuilt_sorted s (met extent s.areas)))
      (IsStrictlySortedBy-filter by_point (λ pair. under pair.0) afresh
      (table_sorted (star s.setup.schema s.features) (standing_points s.features) (sorted-rising point_total (map (λ n. n.at) (nodes s.features)))))
      after_nonempty afresh_nonempty same_stars

pub validation_does : ValidationLaw
validation_does s extent is = record {
  does = record {
    areas = refl;
    fresh = λ p e. rebuilt_under s (met extent s.areas) is.sound (sorted_map s.kept is.sorted) p e;
    kept = λ p e. rebuilt_elsewhere s (met extent s.areas) (sorted_map s.kept is.sorted) p e;
    stored = are_marked s is (met extent s.areas) s.stored;
    features = refl;
    setup = refl;
    version = refl;
  };
  tells = ap count_errors (same_under s is extent);
}
