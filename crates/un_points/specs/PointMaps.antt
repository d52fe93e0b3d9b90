-- Lists of pairs by their points.
use Rattle.std.specs.Prelude.{◌≡◌, if◌then◌else◌, List, ◌∷◌, filter, Option, None, Some}
use Rattle.std.specs.Map.{lookup}
use Rattle.un_geom.specs.declared.point.Point.{Point}
use Rattle.un_geom.specs.Rectangle.{Rectangle}
use Rattle.un_geom.specs.Places.{covers, point_cmp, same_point}
use Rattle.un_pages.specs.Pairs.{past, IsOrdered}

-- the value at the point
abbrev pub value_at : {V : Type 0} → Point → List (Point × V) → Option V
value_at p m = lookup (same_point p) m

-- a map with another value at the point, or with none, has the values of the map before at all other points
abbrev pub IsChangedAt : {V : Type 0} → Point → Option V → List (Point × V) → List (Point × V) → Type 0
IsChangedAt p value before after = (q : Point) → value_at q after ≡ (if same_point q p then value else value_at q before)

-- the pairs whose points the rectangle covers
abbrev pub covered : {V : Type 0} → Rectangle → List (Point × V) → List (Point × V)
covered extent m = filter (λ e. covers extent e.0) m

-- those of them past a point, or all
abbrev pub covered_past : {V : Type 0} → Rectangle → Option Point → List (Point × V) → List (Point × V)
covered_past extent None m = covered extent m
covered_past extent (Some after) m = covered extent (past point_cmp (Some after) m)

-- the first of these
abbrev pub IsNextCovered : {V : Type 0} → Rectangle → Option Point → List (Point × V) → Point × V → Type 0
IsNextCovered extent after m e = covered_past extent after m ≡ e ∷ covered_past extent (Some e.0) m

-- the rest of a walk over the pairs: those past the last point of the walk
pub record IsRun {V : Type 0} (pairs : List (Point × V)) (passed : Option Point) (rest : List (Point × V)) : Type 0 where
  pub ordered : IsOrdered point_cmp pairs
  pub rest_is : rest ≡ past point_cmp passed pairs
