use Rattle.un_pages.proofs.Rows.{rises}
use Rattle.un_pages.proofs.Reached.{opened}
use Rattle.un_pages.proofs.parts.open.Goals as goal

pub start-at-requires-clause-ordered : goal.start-at-requires-clause-ordered
start-at-requires-clause-ordered g c = rises g.met.K.Ord.total _ _ c.requires

pub returns : goal.returns
returns g c = let e = opened g.met.K.Ord.total g.T.Level.pairs c.args.row.now c.args.bound.now _ _ c.requires c.start-at.ensures c.entry.ensures in cc
