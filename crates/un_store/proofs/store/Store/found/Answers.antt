use Rattle.std.proofs.Common.{sym}
use Rattle.un_store.proofs.Held.{found_id}
use Rattle.un_store.proofs.store.Store.found.Goals as goal

pub returns-clause-id : goal.returns-clause-id
returns-clause-id c = found_id c.args.self.now c.args.id c.in-Some.row.now (sym c.in-Some.ensures)
