use Rattle.std.proofs.Common.{◌≡◌, ◌<◌, ◌≤◌}
use Rattle.std.specs.Arc.{arc_value}
use Rattle.un_dirty.specs.declared.cells.Cell.{Cell}
use Rattle.un_dirty.specs.Cells.{IsIn, KeepsFor}
use Rattle.un_dirty.proofs.cells.put_block.Given as goal

abbrev pub invariant-loop-row : goal.invariant-loop-row
invariant-loop-row l = record {
  all : (k : Cell) → k.level ≡ l.low.level → l.low.column ≤ k.column → k.column ≤ l.high.column → l.low.row ≤ k.row → k.row < l.row → IsIn k l.area (arc_value l.rect) l.cells;
  kept : KeepsFor l.area (arc_value l.rect) l.fn.cells l.cells;
}
