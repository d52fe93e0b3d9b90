use Rattle.std.proofs.Common.{◌∙◌}
use Rattle.un_pages.proofs.Splices.{on_ok}
use Rattle.un_pages.proofs.Nodes.{put_found, put_gap}
use Rattle.un_pages.proofs.page.put.Goals as goal

pub returns-in_ok-one-in-Ok : goal.returns-in_ok-one-in-Ok
returns-in_ok-one-in-Ok g c = on_ok c.spliced.result (λ r e. (rw c.in_ok-one-in-Ok.ensures at e) ∙ put_found g.met.K.Ord.total c.args.key c.args.row.now c.in-Ok.at _ _ c.in-Ok.ensures.found c.entry-kept.ensures) c.spliced.ensures

pub returns-in_ok-one-in-Err : goal.returns-in_ok-one-in-Err
returns-in_ok-one-in-Err g c = on_ok c.spliced-in-Err.result (λ r e. (rw c.in_ok-one-in-Err.ensures at e) ∙ put_gap g.met.K.Ord.total c.args.key c.args.row.now c.in-Err.at _ c.in-Err.ensures.gap) c.spliced-in-Err.ensures
