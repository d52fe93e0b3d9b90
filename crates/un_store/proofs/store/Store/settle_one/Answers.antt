use Rattle.std.proofs.Common.{◌∙◌, ap, sym}
use Rattle.un_store.specs.Edits.{at_moment}
use Rattle.un_store.proofs.Held.{none_touched, found_id}
use Rattle.un_store.proofs.store.Store.settle_one.Goals as goal

pub returns-in-None : goal.returns-in-None
returns-in-None c = sym (none_touched c.args.id (at_moment c.args.moment) c.args.self.now (sym c.in-None.ensures))

pub replace-change-requires : goal.replace-change-requires
replace-change-requires c = ap (λ r. r.id) c.in_ok-new-in-Some.ensures ∙ found_id c.args.self.now c.args.id c.in-Some.row.now (sym c.in-Some.ensures)
