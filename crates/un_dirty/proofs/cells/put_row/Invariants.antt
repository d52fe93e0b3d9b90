use Rattle.std.proofs.Common.{◌≡◌, ◌<◌, ◌≤◌}
use Rattle.std.specs.Arc.{arc_value}
use Rattle.un_dirty.specs.declared.cells.Cell.{Cell}
use Rattle.un_dirty.specs.Cells.{IsIn, KeepsFor}
use Rattle.un_dirty.proofs.cells.put_row.Given as goal

abbrev pub invariant-loop-column : goal.invariant-loop-column
invariant-loop-column l = record {
  all : (k : Cell) → k.level ≡ l.first.level → l.first.column ≤ k.column → k.column < l.column → k.row ≡ l.first.row → IsIn k l.area (arc_value l.rect) l.cells;
  kept : KeepsFor l.area (arc_value l.rect) l.fn.cells l.cells;
}
