use Rattle.un_subnet.proofs.Starts.{starts}
use Rattle.un_subnet.proofs.laws.starts.Goals as goal

pub returns : goal.returns
returns c = starts
