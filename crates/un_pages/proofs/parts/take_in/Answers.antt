use Rattle.un_pages.proofs.Rows.{rises}
use Rattle.un_pages.proofs.Splices.{on_ok}
use Rattle.un_pages.proofs.Changes.{lead_if, row_taken, row_taken_kept, row_unchanged, either}
use Rattle.un_pages.proofs.parts.take_in.Goals as goal

pub place-at-requires-clause-ordered : goal.place-at-requires-clause-ordered
place-at-requires-clause-ordered g c = rises g.met.K.Ord.total _ _ c.requires

pub take_at-requires-clause-leads : goal.take_at-requires-clause-leads
take_at-requires-clause-leads g c = lead_if g.T.Level.pairs c.args.row.now c.place-at.result c.requires.leads

pub returns-clause-taken : goal.returns-clause-taken
returns-clause-taken g c = on_ok c.take_at.result (row_taken g.met.K.Ord.total g.T.Level.pairs c.args.row.now c.take_at.new.self c.args.key.now c.place-at.result c.requires c.place-at.ensures) c.take_at.ensures.taken

pub returns-clause-kept : goal.returns-clause-kept
returns-clause-kept g c = either c.take_at.result (row_taken_kept g.met.K.Ord.total g.T.Level.pairs c.args.row.now c.take_at.new.self c.args.key.now c.place-at.result c.requires c.place-at.ensures) (row_unchanged g.met.K.Ord.total g.T.Level.pairs c.args.row.now c.take_at.new.self c.args.key.now c.place-at.result c.requires c.place-at.ensures) c.take_at.ensures.taken c.take_at.ensures.err
