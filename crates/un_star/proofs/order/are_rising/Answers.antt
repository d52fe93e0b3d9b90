use Rattle.un_defs.specs.Orders.{tie_cmp}
use Rattle.un_defs.proofs.Rising.{last_alone}
use Rattle.un_star.proofs.order.are_rising.Goals as goal

pub loop-done-init : goal.loop-done-init
loop-done-init c = last_alone tie_cmp c.args.ties.now
