use Rattle.std.proofs.Common.{◌∙◌, sym, ap, find}
use Rattle.un_star.specs.Errors.{stands_as}
use Rattle.un_star.proofs.Places.{least_is}
use Rattle.un_star.proofs.errors.least_port_at.Goals as goal

pub returns : goal.returns
returns c = c.first_standing.ensures ∙ ap (find (stands_as c.args.p c.args.row.now)) c.port_range-from.ensures.numbers ∙ sym (least_is c.args.p c.args.row.now)
