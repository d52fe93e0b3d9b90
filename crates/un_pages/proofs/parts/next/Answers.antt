use Rattle.std.proofs.Common.{sym, ◌∙◌}
use Rattle.un_pages.specs.Pairs.{pair_held}
use Rattle.un_pages.proofs.Rows.{rises, next_here, next_beyond}
use Rattle.un_pages.proofs.parts.next.Goals as goal

pub place-at-requires-clause-ordered : goal.place-at-requires-clause-ordered
place-at-requires-clause-ordered g c = rises g.met.K.Ord.total _ _ c.requires

pub returns-in-Some : goal.returns-in-Some
returns-in-Some g c = next_here g.met.K.Ord.total g.T.Level.pairs _ c.args.after.now _ _ c.requires c.place-at.ensures c.entry.ensures (pair_held c.in-Some.pair) (rw c.deref.ensures at c.in-Some.ensures)

pub returns-in-None : goal.returns-in-None
returns-in-None g c = c.first_beyond.ensures ∙ sym (next_beyond g.met.K.Ord.total g.T.Level.pairs _ c.args.after.now _ _ c.requires c.place-at.ensures c.entry.ensures (rw c.deref.ensures at c.in-None.ensures))
