use Rattle.std.proofs.Common.{sym, ap, ◌∙◌}
use Rattle.un_machine.specs.Logs.{answer_of}
use Rattle.un_core.proofs.Stepping.{when_done}
use Rattle.un_core.proofs.net.Net.stepped.Goals as goal

pub returns-in-Done-clause-state : goal.returns-in-Done-clause-state
returns-in-Done-clause-state c =
    (when_done c.args.self c.args.command.now c.in-Done.next c.in-Done.reply c.in-Done.mark (sym c.in_ok-next.ensures ∙ ap answer_of c.in-Done.is)).0

pub returns-in-Done-clause-reply : goal.returns-in-Done-clause-reply
returns-in-Done-clause-reply c =
    (when_done c.args.self c.args.command.now c.in-Done.next c.in-Done.reply c.in-Done.mark (sym c.in_ok-next.ensures ∙ ap answer_of c.in-Done.is)).1
