use Rattle.std.proofs.Common.{◌≡◌, refl, arith}
use Rattle.std.specs.Arc.{arc_value}
use Rattle.un_dirty.specs.Cells.{IsIn}
use Rattle.un_dirty.proofs.Indexed.{one_more}
use Rattle.un_dirty.proofs.cells.put_block.Goals as goal

pub loop-row-preserved : goal.loop-row-preserved
loop-row-preserved c =
    let i = c.loop-row.invariant in
    let put = c.in_ok-put_row.ensures in
    record {
      all = λ k level west east south north.
          one_more (λ n. k.row ≡ n → IsIn k c.args.area (arc_value c.args.rect.now) c.put_row.new.cells) c.loop-row.row
          (λ n below e. put.kept k c.args.area (arc_value c.args.rect.now) (λ _. refl) (i.all k level west east south (omega (arith, below, e))))
          (λ e. put.all k level west east e)
          k.row north (λ j. k.row);
      kept = λ k n s same h. put.kept k n s same (i.kept k n s same h);
    }
