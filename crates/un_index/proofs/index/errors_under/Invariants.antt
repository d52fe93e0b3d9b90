use Rattle.std.proofs.Common.{◌≡◌, ◌++◌, flat_map}
use Rattle.un_points.specs.PointMaps.{covered}
use Rattle.un_index.specs.Kept.{errors_of}
use Rattle.un_index.proofs.index.errors_under.Given as goal

abbrev pub invariant-loop-point : goal.invariant-loop-point
invariant-loop-point l = l.errors.items ++ flat_map errors_of l.point-iterator ≡ flat_map errors_of (covered l.extent l.stars)
