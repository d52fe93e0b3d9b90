use Rattle.un_asof.proofs.Standing.{entries_lead_on}
use Rattle.un_asof.proofs.laws.entries_lead_on.Goals as goal

pub returns : goal.returns
returns g c = entries_lead_on g.M.Machine.step g.J.BoardName.opening
