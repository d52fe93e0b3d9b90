use Rattle.std.proofs.Common.{subst, sym}
use Rattle.un_geom.specs.Places.{IsPlace}
use Rattle.un_geom.proofs.Casts.{point_narrow, place_read}
use Rattle.un_geom.proofs.shape.point.Goals as goal

pub returns-clause-point : goal.returns-clause-point
returns-clause-point c = point_narrow c.args.triple.now c.told-triple c.requires

pub returns-clause-place : goal.returns-clause-place
returns-clause-place c =
    subst IsPlace (sym (returns-clause-point c)) (place_read c.args.triple.now c.told-triple c.requires)
