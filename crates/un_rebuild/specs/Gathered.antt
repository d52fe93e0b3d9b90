-- Lists of points that differ in the order of the points, and in how often each stands there.
use Rattle.std.specs.Prelude.{List, Contains}
use Rattle.un_geom.specs.declared.point.Point.{Point}

-- the points of one list are those of the other
pub record HaveSame (before after : List Point) : Type 0 where
  pub keeps : (p : Point) → Contains before p → Contains after p
  pub adds_none : (p : Point) → Contains after p → Contains before p
