use Rattle.un_dirty.specs.Cells.{KeepsOthers}
use Rattle.un_dirty.proofs.cells.take_row.Given as goal

abbrev pub invariant-loop-column : goal.invariant-loop-column
invariant-loop-column l = KeepsOthers l.area l.fn.cells l.cells
