use Rattle.std.proofs.Common.{◌∙◌}
use Rattle.un_defs.specs.contracts.star.TopoErrorOrd.TheImpl as error_order
use Rattle.un_defs.specs.Orders.{error_cmp}
use Rattle.un_star.proofs.OrdersAlike.{rising-alike, errors_alike}
use Rattle.un_star.proofs.order.rising_errors.Goals as goal

pub returns : goal.returns
returns c = c.in_ok-errors.ensures ∙ rising-alike error_order.ghosts.cmp error_cmp errors_alike c.args.errors.now
