use Rattle.un_store.proofs.EditsFit.{has_paths}
use Rattle.un_store.proofs.Makings.{path_fits}
use Rattle.un_store.proofs.store.Store.path.Goals as goal

pub returns-clause-fits : goal.returns-clause-fits
returns-clause-fits c = λ fitting. rw c.in-Path.is (path_fits c.args.schema.now c.args.next c.args.moment c.args.self.now fitting c.in-Path.id c.in_ok-row.row.now c.in_ok-row.ensures.row c.in-Path.path c.in_ok-path.path (has_paths c.args.schema.now c.rules-rules.ensures.catalog) c.in_ok-path.ensures.path)
