use Rattle.std.proofs.Common.{sym}
use Rattle.un_store.proofs.Makings.{kind_fits}
use Rattle.un_store.proofs.store.Store.kind.Goals as goal

pub returns-clause-fits : goal.returns-clause-fits
returns-clause-fits c = λ fitting. rw c.in-Kind.is (kind_fits c.args.schema.now c.args.next c.args.moment c.args.self.now fitting c.in-Kind.id c.in_ok-row.row.now c.in_ok-row.ensures.row c.in-Kind.kind c.in_ok-number.number c.kind_at.result.now
    c.in_ok-number.ensures.kind (sym c.kind_at.ensures) c.in_ok-check_class.ensures.class (rw c.configured-terminals.ensures.terminals at c.configured-terminals.ensures.some) (rw c.configured-terminals.ensures.path at c.configured-terminals.ensures.exists))
