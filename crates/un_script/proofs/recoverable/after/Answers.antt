use Rattle.std.proofs.Common.{◌∙◌}
use Rattle.un_script.proofs.Redone.{redone_more}
use Rattle.un_script.proofs.recoverable.after.Goals as goal

pub loop-command-preserved : goal.loop-command-preserved
loop-command-preserved c =
    c.in_ok-next.ensures.state
    ∙ redone_more c.args.net c.loop-command.last c.args.commands.now c.loop-command.command-index c.command-item.result c.loop-command-test.true c.command-item.is c.loop-command.invariant
