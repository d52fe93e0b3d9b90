use Rattle.un_pages.proofs.Rows.{rises, looked_up}
use Rattle.un_pages.proofs.parts.get.Goals as goal

pub place-requires-clause-ordered : goal.place-requires-clause-ordered
place-requires-clause-ordered g c = rises g.met.K.Ord.total _ _ c.requires

-- the part at the place is the only one that may have the key
pub returns : goal.returns
returns g c = let e = looked_up g.met.K.Ord.total g.T.Level.pairs _ c.args.key.now _ _ c.requires c.place.ensures c.entry.ensures in cc
