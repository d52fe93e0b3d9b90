use Rattle.std.proofs.Common.{sym, subst}
use Rattle.un_dirty.specs.Cells.{KeepsOthers}
use Rattle.un_dirty.proofs.Entries.{kept_taken}
use Rattle.un_dirty.proofs.cells.take.Goals as goal

pub returns : goal.returns
returns c = subst (KeepsOthers c.args.area c.args.cells.now) (sym c.in_ok-take.ensures.ok) (kept_taken c.args.cells.now _)
