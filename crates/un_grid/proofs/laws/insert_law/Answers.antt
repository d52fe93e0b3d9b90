use Rattle.un_grid.proofs.Inserting.{inserted}
use Rattle.un_grid.proofs.laws.insert_law.Goals as goal

pub returns : goal.returns
returns c = inserted
