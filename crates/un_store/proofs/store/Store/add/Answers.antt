use Rattle.un_store.proofs.Held.{over_all}
use Rattle.un_store.proofs.store.Store.add.Goals as goal

pub returns-clause-rows : goal.returns-clause-rows
returns-clause-rows c = over_all c.args.row c.args.self.now c.requires
