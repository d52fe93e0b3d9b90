use Rattle.un_subnet.proofs.Starts.{may_update}
use Rattle.un_subnet.proofs.laws.may_update.Goals as goal

pub returns : goal.returns
returns c = may_update
