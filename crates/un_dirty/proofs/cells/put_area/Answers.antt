use Rattle.std.proofs.Common.{◌≡◌, true, ◌∙◌, ap, sym, subst, arith}
use Rattle.un_geom.specs.Places.{covers}
use Rattle.std.specs.Arc.{arc_value}
use Rattle.un_dirty.specs.Cells.{IsIn, cell_at, level_of}
use Rattle.un_dirty.proofs.Blocks.{in_block}
use Rattle.un_dirty.proofs.cells.put_area.Goals as goal

pub returns-clause-all : goal.returns-clause-all
returns-clause-all c = λ p e.
    let same = c.deref.ensures in
    let b = in_block c.level-level.result c.deref.result.now p c.low_cell-low.ensures.bounded (subst (λ r. covers r p ≡ true) (sym same) e) in
    let low = c.low_cell-low.ensures in
    let high = c.high_cell-high.ensures in
    subst (λ n. IsIn (cell_at n p) c.args.area (arc_value c.args.rect.now) c.put_block.new.cells) (c.level-level.ensures.level ∙ ap level_of same)
    (c.in_ok-put_block.ensures.all (cell_at c.level-level.result p) (sym low.level)
    (omega (arith, b.west, low.column)) (omega (arith, b.east, high.column)) (omega (arith, b.south, low.row)) (omega (arith, b.north, high.row)))
