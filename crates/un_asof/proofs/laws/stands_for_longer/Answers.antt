use Rattle.un_asof.proofs.Standing.{stands_for_longer}
use Rattle.un_asof.proofs.laws.stands_for_longer.Goals as goal

pub returns : goal.returns
returns g c = stands_for_longer g.M.Machine.step g.J.BoardName.opening
