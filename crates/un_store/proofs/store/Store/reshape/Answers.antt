use Rattle.un_store.proofs.Makings.{moved_fits}
use Rattle.un_store.proofs.store.Store.reshape.Goals as goal

pub returns-clause-fits : goal.returns-clause-fits
returns-clause-fits c = λ fitting. rw c.in-Reshape.is (moved_fits c.args.schema.now c.args.next c.args.moment c.args.self.now fitting c.in-Reshape.id c.in_ok-row.row.now c.in_ok-row.ensures.row c.in-Reshape.points c.in_ok-shape.ensures.enough c.in_ok-shape.ensures.few)
