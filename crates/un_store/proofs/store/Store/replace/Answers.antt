use Rattle.un_store.proofs.Held.{put_changed}
use Rattle.un_store.proofs.store.Store.replace.Goals as goal

pub returns-clause-rows : goal.returns-clause-rows
returns-clause-rows c = λ change old found is. put_changed c.args.id change old c.args.row c.args.self.now c.len-rising.ensures.rising c.requires found is
