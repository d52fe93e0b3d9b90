use Rattle.un_core.proofs.Accepted.{after_command}
use Rattle.un_core.proofs.histories.commands_lead.Goals as goal

pub returns : goal.returns
returns c = after_command
