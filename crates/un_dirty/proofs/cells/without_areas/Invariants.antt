use Rattle.un_dirty.specs.Cells.{KeepsBut}
use Rattle.un_dirty.proofs.cells.without_areas.Given as goal

abbrev pub invariant-loop-area : goal.invariant-loop-area
invariant-loop-area l = KeepsBut l.gone l.cells l.left
