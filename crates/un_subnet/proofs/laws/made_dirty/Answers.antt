use Rattle.un_subnet.proofs.MadeDirty.{made_dirty, same_dirty}
use Rattle.un_subnet.proofs.laws.made_dirty.Goals as goal

pub returns-clause-test : goal.returns-clause-test
returns-clause-test c = made_dirty

pub returns-clause-same : goal.returns-clause-same
returns-clause-same c = same_dirty
