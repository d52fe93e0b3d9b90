use Rattle.std.proofs.Common.{◌∙◌, ◌++◌, map, flat_map, ap}
use Rattle.un_pages.specs.Pairs.{pair_held}
use Rattle.un_points.specs.PointMaps.{covered}
use Rattle.un_index.specs.Kept.{errors_of}
use Rattle.un_index.proofs.Stars.{more_errors}
use Rattle.un_index.proofs.index.errors_under.Goals as goal

pub loop-point-preserved : goal.loop-point-preserved
loop-point-preserved c = more_errors c.loop-point.point-iterator c.next.new.self (pair_held (c.in-Some.point, c.in-Some.star)) c.in-Some.ensures.steps
    (flat_map errors_of (covered c.args.extent.now c.args.stars.now)) c.loop-point.errors.items c.add_errors.new.list.items c.loop-point.invariant
    (c.in_ok-add_errors.ensures ∙ ap (λ l. c.loop-point.errors.items ++ map (λ e. (c.in-Some.point, e)) l) (c.as_slice.ensures ∙ ap (λ s. s.errors) c.deref.ensures))
