-- What validating an extent does to the kept topology and to the dirty areas.
pub use Rattle.un_rebuild.specs.Rebuilding.{met, is_under, by_point, IsKept}
use Rattle.std.specs.Prelude.{ℕ, ◌+◌, not, List, ◌++◌, map, filter, length}
use Rattle.std.specs.List.{sum_by}
use Rattle.un_geom.specs.declared.point.Point.{Point}
use Rattle.un_geom.specs.Rectangle.{Rectangle}
use Rattle.un_geom.specs.Places.{meets}
use Rattle.un_defs.specs.declared.star.Star.{Star}
use Rattle.un_defs.specs.Orders.{rising}
use Rattle.un_defs.specs.Star.{fresh, standing_points}
use Rattle.un_index.specs.Kept.{stars_of}
use Rattle.un_rebuild.specs.Rebuilding.{ArePoints as ArePointsOf, AreRebuilt as AreRebuiltOf}
use Rattle.un_subnet.specs.Changes.{Changed, changes_at}
use Rattle.un_subnet.specs.Stored.{marked}
use Rattle.un_core.specs.State.{State, known}

-- the dirty areas that don't meet the extent
abbrev pub unmet : Rectangle → List (ℕ × Rectangle) → List (ℕ × Rectangle)
unmet extent areas = filter (λ area. not (meets area.1 extent)) areas

-- what is kept outside the areas, and the fresh topology under them
abbrev pub rebuilt : State → List (ℕ × Rectangle) → List (Point × Star)
rebuilt s areas = rising by_point
    (filter (λ pair. not (is_under areas pair.0)) s.kept ++ filter (λ pair. is_under areas pair.0) (fresh s.setup.schema s.features))

-- the points at which a star may change
abbrev pub changeable : State → List Point
changeable s = map (λ pair. pair.0) s.kept ++ standing_points s.features

-- the stars that change once the areas are rebuilt
abbrev pub changes_under : State → List (ℕ × Rectangle) → Changed
changes_under s areas = changes_at (stars_of s.kept) (stars_of (rebuilt s areas)) (changeable s)

-- The state after a validation: the areas that meet the extent are gone, and under them the topology is fresh. Each stored subnetwork that a
-- star concerns which changes is dirty.
abbrev pub validated : State → Rectangle → State
validated s extent = record s {
  kept = rebuilt s (met extent s.areas);
  areas = unmet extent s.areas;
  stored = map (marked (changes_under s (met extent s.areas))) s.stored;
  version = s.version + 1;
}

-- how many errors stars have
abbrev pub count_errors : List (Point × Star) → ℕ
count_errors stars = sum_by (λ pair. length pair.1.errors) stars

-- how many errors there are at the points under the areas, once these are validated
abbrev pub errors_under : State → List (ℕ × Rectangle) → ℕ
errors_under s areas = count_errors (filter (λ pair. is_under areas pair.0) (rebuilt s areas))

-- the points have all that the areas cover and at which something stands or is kept
abbrev pub ArePoints : State → List (ℕ × Rectangle) → List Point → Type 0
ArePoints s areas points = ArePointsOf (known s) s.kept areas points

-- the points have the stars of all features, and the other points what is kept there
abbrev pub AreRebuilt : State → List Point → List (Point × Star) → Type 0
AreRebuilt s points kept = AreRebuiltOf (known s) s.kept points kept
