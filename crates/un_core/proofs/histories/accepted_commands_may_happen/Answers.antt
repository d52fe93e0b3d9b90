use Rattle.un_core.proofs.Accepted.{may_happen}
use Rattle.un_core.proofs.histories.accepted_commands_may_happen.Goals as goal

pub returns : goal.returns
returns c = may_happen
