use Rattle.std.proofs.Common.{◌≢◌}
use Rattle.un_dirty.proofs.Indexed.{all_at}
use Rattle.un_dirty.proofs.cells.without_areas.Goals as goal

pub loop-area-preserved : goal.loop-area-preserved
loop-area-preserved c = λ k n s h g.
    c.in_ok-take_area.ensures k n s (all_at (λ a. n ≢ a.0) c.args.gone.now c.loop-area.area-index c.area-item.result c.loop-area-test.true c.area-item.is h) (c.loop-area.invariant k n s h g)
