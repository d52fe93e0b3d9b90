use Rattle.std.proofs.Common.{◌∙◌}
use Rattle.un_pages.proofs.Splices.{on_ok}
use Rattle.un_pages.proofs.Nodes.{cut_found, cut_gap}
use Rattle.un_pages.proofs.page.cut.Goals as goal

pub returns-in-Ok : goal.returns-in-Ok
returns-in-Ok g c = on_ok c.spliced.result (λ r e. (rw c.empty.ensures at e) ∙ cut_found g.met.K.Ord.total c.args.key.now c.args.row.now c.in-Ok.at _ c.in-Ok.ensures.found c.entry-kept.ensures) c.spliced.ensures

pub returns-in-Err : goal.returns-in-Err
returns-in-Err g c = on_ok c.spliced-in-Err.result (λ r e. (rw c.empty-in-Err.ensures at e) ∙ cut_gap g.met.K.Ord.total c.args.key.now c.args.row.now c.in-Err.at c.in-Err.ensures.gap) c.spliced-in-Err.ensures
