-- Areas that lie in an extent.
use Rattle.std.specs.Prelude.{◌≡◌, ℕ, int_le, Bool, true, ◌&&◌, List}
use Rattle.un_geom.specs.declared.point.Point.{Point}
use Rattle.un_geom.specs.Rectangle.{Rectangle}
use Rattle.un_geom.specs.Places.{covers}
use Rattle.un_rebuild.specs.Rebuilding.{is_under}

-- the sides of the one lie between those of the other
abbrev pub lies_in : Rectangle → Rectangle → Bool
lies_in one other = (int_le other.x0 one.x0 && int_le one.x1 other.x1) && (int_le other.y0 one.y0 && int_le one.y1 other.y1)

-- what the areas cover the extent covers
abbrev pub AreWithin : List (ℕ × Rectangle) → Rectangle → Type 0
AreWithin areas extent = (p : Point) → is_under areas p ≡ true → covers extent p ≡ true
