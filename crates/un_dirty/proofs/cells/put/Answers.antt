use Rattle.std.proofs.Common.{sym, subst}
use Rattle.std.specs.Arc.{arc_value}
use Rattle.un_dirty.specs.Cells.{IsIn, KeepsFor}
use Rattle.un_dirty.proofs.Entries.{number_put, kept_put}
use Rattle.un_dirty.proofs.cells.put.Goals as goal

pub returns-clause-here : goal.returns-clause-here
returns-clause-here c = subst (λ r. IsIn c.args.cell c.args.area r c.put.new.self) c.in_ok-try_clone.ensures
    (subst (λ m. IsIn c.args.cell c.args.area (arc_value c.in_ok-try_clone.field-0) m) (sym c.in_ok-put.ensures.ok) (number_put _ c.args.cells.now c.args.cell c.args.area))

pub returns-clause-kept : goal.returns-clause-kept
returns-clause-kept c = subst (λ r. KeepsFor c.args.area r c.args.cells.now c.put.new.self) c.in_ok-try_clone.ensures
    (subst (KeepsFor c.args.area (arc_value c.in_ok-try_clone.field-0) c.args.cells.now) (sym c.in_ok-put.ensures.ok) (kept_put _ c.args.cells.now _))
