use Rattle.std.proofs.Common.{◌≡◌, arith}
use Rattle.std.specs.Arc.{arc_value}
use Rattle.std.specs.BTreeMap.{insert_entry}
use Rattle.un_pages.proofs.Changes.{value_put, pair_put, found_some, gap_none, page_replaced, page_added}
use Rattle.un_pages.proofs.page.put_here.Goals as goal

pub returns-in_ok-try_clone-in-Ok-clause-put : goal.returns-in_ok-try_clone-in-Ok-clause-put
returns-in_ok-try_clone-in-Ok-clause-put g c = (
  value_put g.met.K.Ord.total c.args.key c.args.row.now c.in-Ok.at _ _ _ c.in-Ok.ensures.found c.in_ok-try_clone-in-Ok.ensures c.set_value.ensures,
  found_some g.met.K.Ord.total c.args.key c.args.row.now c.in-Ok.at c.in-Ok.ensures.found,
)

pub returns-in_ok-try_clone-in-Ok-clause-page : goal.returns-in_ok-try_clone-in-Ok-clause-page
returns-in_ok-try_clone-in-Ok-clause-page g c =
    let e : c.set_value.new.self ≡ insert_entry g.K.Ord.cmp c.args.row.now c.args.key (arc_value c.args.value.now) = value_put g.met.K.Ord.total c.args.key c.args.row.now c.in-Ok.at _ _ _ c.in-Ok.ensures.found c.in_ok-try_clone-in-Ok.ensures c.set_value.ensures in
    page_replaced g.met.K.Ord.total c.args.key c.args.row.now _ _ c.requires e (found_some g.met.K.Ord.total c.args.key c.args.row.now c.in-Ok.at c.in-Ok.ensures.found)

pub returns-in_ok-insert-in-Err-clause-put : goal.returns-in_ok-insert-in-Err-clause-put
returns-in_ok-insert-in-Err-clause-put g c = (
  pair_put g.met.K.Ord.total c.args.key c.args.row.now c.in-Err.at _ _ _ c.in-Err.ensures.gap c.in_ok-try_clone-in-Err.ensures c.in_ok-insert-in-Err.ensures.ok,
  gap_none g.met.K.Ord.total c.args.key c.args.row.now c.in-Err.at c.in-Err.ensures.gap,
)

pub returns-in_ok-insert-in-Err-clause-page : goal.returns-in_ok-insert-in-Err-clause-page
returns-in_ok-insert-in-Err-clause-page g c =
    let e : c.insert.new.self ≡ insert_entry g.K.Ord.cmp c.args.row.now c.args.key (arc_value c.args.value.now) = pair_put g.met.K.Ord.total c.args.key c.args.row.now c.in-Err.at _ _ _ c.in-Err.ensures.gap c.in_ok-try_clone-in-Err.ensures c.in_ok-insert-in-Err.ensures.ok in
    page_added g.met.K.Ord.total c.args.key c.args.row.now _ _ c.requires (omega arith) e
