use Rattle.un_isolate.proofs.Separation.{separation}
use Rattle.un_isolate.proofs.laws.separation.Goals as goal

pub returns : goal.returns
returns c = separation
