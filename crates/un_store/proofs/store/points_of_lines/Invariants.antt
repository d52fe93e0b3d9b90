use Rattle.std.proofs.Common.{◌≡◌, ◌++◌, All}
use Rattle.std.specs.Map.{values_of}
use Rattle.un_geom.specs.Places.{IsPlace}
use Rattle.un_store.specs.Keyed.{line_points}
use Rattle.un_store.proofs.store.points_of_lines.Given as goal

-- the points so far, with those of the rows to come, are all; each is a place
abbrev pub invariant-loop-row : goal.invariant-loop-row
invariant-loop-row l =
    (l.points.items ++ line_points l.kind (values_of l.row-iterator) ≡ line_points l.kind (values_of l.rows)) × All IsPlace l.points.items
