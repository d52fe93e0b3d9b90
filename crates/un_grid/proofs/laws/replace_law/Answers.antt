use Rattle.un_grid.proofs.Changing.{replaced}
use Rattle.un_grid.proofs.laws.replace_law.Goals as goal

pub returns : goal.returns
returns c = replaced
