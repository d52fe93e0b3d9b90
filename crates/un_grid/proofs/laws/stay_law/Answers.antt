use Rattle.un_grid.proofs.Changing.{stayed}
use Rattle.un_grid.proofs.laws.stay_law.Goals as goal

pub returns : goal.returns
returns c = stayed
