use Rattle.un_pages.specs.Changes.{IsTaken}
use Rattle.un_pages.proofs.Splices.{on_ok}
use Rattle.un_pages.proofs.Changes.{entry_changed, entry_kept, on_err}
use Rattle.un_pages.proofs.row.Row.take_at.Goals as goal

pub returns-clause-taken : goal.returns-clause-taken
returns-clause-taken g c = on_ok c.take_beside.result (λ r e. entry_changed c.self.inside.items.items c.args.at c.index_mut.result.now c.take_beside.new.item c.args.self.now c.self.view_is c.requires.within c.index_mut.ensures.value g.X.Level.pairs (λ was now. IsTaken g.K.Ord.cmp (λ p. g.X.Level.pairs p.1) was now c.args.key.now r) c.take_beside.ensures.leads e) c.take_beside.ensures.taken

pub returns-clause-err : goal.returns-clause-err
returns-clause-err g c = on_err c.take_beside.result (entry_kept c.self.inside.items.items c.args.at c.index_mut.result.now c.take_beside.new.item c.args.self.now c.self.view_is c.requires.within c.index_mut.ensures.value) c.take_beside.ensures.err
