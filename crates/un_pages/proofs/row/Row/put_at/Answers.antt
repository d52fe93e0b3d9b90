use Rattle.std.specs.Arc.{arc_value}
use Rattle.un_pages.specs.Changes.{IsPut}
use Rattle.un_pages.proofs.Splices.{on_ok}
use Rattle.un_pages.proofs.Changes.{entry_changed, entry_kept, on_err}
use Rattle.un_pages.proofs.row.Row.put_at.Goals as goal

pub returns-clause-put : goal.returns-clause-put
returns-clause-put g c = on_ok c.put_beside.result (λ r e. entry_changed c.self.inside.items.items c.args.at c.index_mut.result.now c.put_beside.new.item c.args.self.now c.self.view_is c.requires.within c.index_mut.ensures.value g.X.Level.pairs (λ was now. IsPut g.K.Ord.cmp (λ p. g.X.Level.pairs p.1) was now c.args.key (arc_value c.args.value.now) r) c.put_beside.ensures.leads e) c.put_beside.ensures.put

pub returns-clause-err : goal.returns-clause-err
returns-clause-err g c = on_err c.put_beside.result (entry_kept c.self.inside.items.items c.args.at c.index_mut.result.now c.put_beside.new.item c.args.self.now c.self.view_is c.requires.within c.index_mut.ensures.value) c.put_beside.ensures.err
