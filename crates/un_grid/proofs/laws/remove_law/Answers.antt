use Rattle.un_grid.proofs.Changing.{removed}
use Rattle.un_grid.proofs.laws.remove_law.Goals as goal

pub returns : goal.returns
returns c = removed
