use Rattle.std.specs.Arc.{arc_value}
use Rattle.un_pages.proofs.Rows.{rises}
use Rattle.un_pages.proofs.Splices.{on_ok}
use Rattle.un_pages.proofs.Changes.{lead_if, row_put, row_put_kept, row_unchanged, either}
use Rattle.un_pages.proofs.parts.put_in.Goals as goal

pub place-at-requires-clause-ordered : goal.place-at-requires-clause-ordered
place-at-requires-clause-ordered g c = rises g.met.K.Ord.total _ _ c.requires

pub put_at-requires-clause-leads : goal.put_at-requires-clause-leads
put_at-requires-clause-leads g c = lead_if g.T.Level.pairs c.args.row.now c.place-at.result c.requires.leads

pub returns-clause-put : goal.returns-clause-put
returns-clause-put g c = on_ok c.put_at.result (row_put g.met.K.Ord.total g.T.Level.pairs c.args.row.now c.put_at.new.self c.args.key c.place-at.result c.requires c.place-at.ensures (arc_value c.args.value.now)) c.put_at.ensures.put

pub returns-clause-kept : goal.returns-clause-kept
returns-clause-kept g c = either c.put_at.result (row_put_kept g.met.K.Ord.total g.T.Level.pairs c.args.row.now c.put_at.new.self c.args.key c.place-at.result c.requires c.place-at.ensures (arc_value c.args.value.now)) (row_unchanged g.met.K.Ord.total g.T.Level.pairs c.args.row.now c.put_at.new.self c.args.key c.place-at.result c.requires c.place-at.ensures) c.put_at.ensures.put c.put_at.ensures.err
