use Rattle.un_dirty.specs.Cells.{KeepsOthers}
use Rattle.un_dirty.proofs.cells.take_area.Given as goal

abbrev pub invariant-loop-row : goal.invariant-loop-row
invariant-loop-row l = KeepsOthers l.area l.fn.cells l.cells
