-- The errors of a topology in an extent.
use Rattle.std.specs.Prelude.{◌↔◌, List, map, filter, flat_map, Contains, IsTrue}
use Rattle.un_geom.specs.declared.point.Point.{Point}
use Rattle.un_geom.specs.Rectangle.{Rectangle}
use Rattle.un_geom.specs.Places.{point_cmp, covers}
use Rattle.un_defs.specs.declared.star.TopoError.{TopoError}
use Rattle.un_defs.specs.Orders.{rising}
use Rattle.un_defs.specs.Ground.{Ground}
use Rattle.un_core.specs.Walked.{Survey}

-- the errors at a point, each with the point
abbrev pub errors_at : Ground → Point → List (Point × TopoError)
errors_at G p = map (λ e. (p, e)) (G.stars p).errors

-- the errors at the points that the extent covers, by point and then in the star's order
abbrev pub errors_in : Survey → Rectangle → List (Point × TopoError)
errors_in v extent = flat_map (errors_at v.topology) (filter (covers extent) (rising point_cmp v.points))

-- the list has exactly the errors of the stars at the points that the extent covers
abbrev pub HasErrors : Ground → Rectangle → List (Point × TopoError) → Type 0
HasErrors G extent errors = (p : Point) (e : TopoError) → Contains errors (p, e) ↔ (IsTrue (covers extent p) × Contains (G.stars p).errors e)
