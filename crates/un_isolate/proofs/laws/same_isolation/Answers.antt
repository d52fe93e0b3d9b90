use Rattle.un_isolate.proofs.SameIsolation.{same_isolation}
use Rattle.un_isolate.proofs.laws.same_isolation.Goals as goal

pub returns : goal.returns
returns c = same_isolation
