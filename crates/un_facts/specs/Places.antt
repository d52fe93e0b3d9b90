-- The points at which something stands.
use Rattle.std.specs.Prelude.{◌⊎◌, List, Contains, IsTrue}
use Rattle.un_geom.specs.declared.point.Point.{Point}
use Rattle.un_geom.specs.Rectangle.{Rectangle}
use Rattle.un_geom.specs.Places.{covers}
use Rattle.un_defs.specs.Features.{Features}
use Rattle.un_defs.specs.Laws.{IsBare}

-- the points that the rectangle covers and at which something stands are all in the list, which has no point outside the rectangle
pub record ArePlaces (F : Features) (extent : Rectangle) (points : List Point) : Type 0 where
  pub inside : (p : Point) → Contains points p → IsTrue (covers extent p)
  pub whole : (p : Point) → IsTrue (covers extent p) → Contains points p ⊎ IsBare F p
