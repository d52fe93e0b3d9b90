use Rattle.std.proofs.Common.{refl, arith}
use Rattle.un_pages.proofs.Changes.{pair_cut, page_cut, found_some, gap_none}
use Rattle.un_pages.proofs.page.cut_here.Goals as goal

pub returns-in-Ok-clause-taken : goal.returns-in-Ok-clause-taken
returns-in-Ok-clause-taken g c = (
  pair_cut g.met.K.Ord.total c.args.key.now c.args.row.now c.in-Ok.at _ c.in-Ok.ensures.found c.remove.ensures,
  found_some g.met.K.Ord.total c.args.key.now c.args.row.now c.in-Ok.at c.in-Ok.ensures.found,
)

pub returns-in-Ok-clause-page : goal.returns-in-Ok-clause-page
returns-in-Ok-clause-page g c =
    let e = pair_cut g.met.K.Ord.total c.args.key.now c.args.row.now c.in-Ok.at c.remove.new.self c.in-Ok.ensures.found c.remove.ensures in
    page_cut g.met.K.Ord.total c.args.key.now c.args.row.now c.in-Ok.at _ c.requires (omega arith) c.in-Ok.ensures.found e

pub returns-in-Err-clause-taken : goal.returns-in-Err-clause-taken
returns-in-Err-clause-taken g c = (refl, gap_none g.met.K.Ord.total c.args.key.now c.args.row.now _ c.in-Err.ensures.gap)
