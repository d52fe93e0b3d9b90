use Rattle.std.proofs.Common.{◌∙◌, sym, arith}
use Rattle.un_star.specs.Errors.{stands_as}
use Rattle.un_star.proofs.Places.{find_next}
use Rattle.un_star.proofs.errors.first_standing.Goals as goal

pub loop-before-preserved : goal.loop-before-preserved
loop-before-preserved c = c.loop-before.invariant
    ∙ find_next (stands_as c.args.p c.args.row.now) c.args.from c.loop-before.before c.args.count (omega arith) (sym c.stands_as.ensures ∙ c.if-stands_as.false)
