use Rattle.un_pages.proofs.Reached.{from_all, from_found, from_gap}
use Rattle.un_pages.proofs.row.Row.place_from.Goals as goal

pub returns-in-Ok-clause-reached : goal.returns-in-Ok-clause-reached
returns-in-Ok-clause-reached g c = rw c.in-Included.is (from_found g.met.K.Ord.total _ c.args.self.now _ c.in-Ok.ensures.found)

pub returns-in-Ok-2-clause-reached : goal.returns-in-Ok-2-clause-reached
returns-in-Ok-2-clause-reached g c = rw c.in-Included.is (from_gap g.met.K.Ord.total _ c.args.self.now _ c.in-Ok.ensures.gap)

pub returns-in-Excluded-clause-reached : goal.returns-in-Excluded-clause-reached
returns-in-Excluded-clause-reached g c = rw c.in-Excluded.is c.beyond.ensures.rest

pub returns-in-Unbounded-clause-reached : goal.returns-in-Unbounded-clause-reached
returns-in-Unbounded-clause-reached g c = rw c.in-Unbounded.is (from_all g.K.Ord.cmp c.args.self.now)
