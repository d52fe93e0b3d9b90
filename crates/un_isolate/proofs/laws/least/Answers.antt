use Rattle.un_isolate.proofs.Separation.{least}
use Rattle.un_isolate.proofs.laws.least.Goals as goal

pub returns : goal.returns
returns c = least
