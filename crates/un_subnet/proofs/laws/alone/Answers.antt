use Rattle.un_subnet.proofs.AloneReach.{alone_law}
use Rattle.un_subnet.proofs.laws.alone.Goals as goal

pub returns : goal.returns
returns c = alone_law
