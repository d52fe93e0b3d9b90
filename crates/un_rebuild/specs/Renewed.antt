-- The topology that is fresh under areas, with what is counted of it.
use Rattle.std.specs.Prelude.{◌≡◌, ℕ, List, length}
use Rattle.std.specs.List.{sum_by}
use Rattle.std.specs.List.Sorted.{IsStrictlySortedBy}
use Rattle.un_geom.specs.declared.point.Point.{Point}
use Rattle.un_geom.specs.Rectangle.{Rectangle}
use Rattle.un_geom.specs.Places.{point_cmp}
use Rattle.un_defs.specs.declared.star.Star.{Star}
use Rattle.un_facts.specs.Known.{Known}
use Rattle.un_rebuild.specs.declared.topology.Rebuilt.{Rebuilt}
use Rattle.un_rebuild.specs.Rebuilding.{fresh_at, ArePoints, AreRebuilt, IsKept}

-- The points are all those under the areas at which something stands or a star was kept, in order. They have the stars of all features, and
-- the other points what was kept there.
pub record IsRebuilt (K : Known) (before : List (Point × Star)) (areas : List (ℕ × Rectangle)) (r : Rebuilt) : Type 0 where
  pub points : ArePoints K before areas r.points.items
  pub sorted : IsStrictlySortedBy point_cmp r.points.items
  pub stars : AreRebuilt K before r.points.items r.kept
  pub kept : IsKept r.kept
  pub count : r.areas ≡ length areas
  pub errors : r.errors ≡ sum_by (λ p. length (fresh_at K p).errors) r.points.items
