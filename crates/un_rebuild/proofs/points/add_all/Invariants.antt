use Rattle.std.proofs.Common.{◌≡◌, take}
use Rattle.un_rebuild.proofs.Pointed.{put_all}
use Rattle.un_rebuild.proofs.points.add_all.Given as goal

abbrev pub invariant-loop-point : goal.invariant-loop-point
invariant-loop-point l = l.set.keys ≡ put_all l.fn.set.keys (take l.point-index l.points)
