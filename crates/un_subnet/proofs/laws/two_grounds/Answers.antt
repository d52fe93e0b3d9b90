use Rattle.un_subnet.proofs.TwoGrounds.{same_reply, same_outcome}
use Rattle.un_subnet.proofs.laws.two_grounds.Goals as goal

pub returns-clause-reply : goal.returns-clause-reply
returns-clause-reply c = same_reply

pub returns-clause-outcome : goal.returns-clause-outcome
returns-clause-outcome c = same_outcome
