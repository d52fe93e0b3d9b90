use Rattle.un_defs.proofs.Rising.{last_alone}
use Rattle.un_defs.proofs.order.is_rising.Goals as goal

pub loop-done-init : goal.loop-done-init
loop-done-init g c = last_alone g.T.Ord.cmp c.args.xs.now
