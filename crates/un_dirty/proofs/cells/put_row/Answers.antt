use Rattle.std.proofs.Common.{◌≡◌, refl, sym, subst, arith}
use Rattle.std.specs.Arc.{arc_value}
use Rattle.un_dirty.specs.Cells.{IsIn}
use Rattle.un_dirty.proofs.Indexed.{one_more}
use Rattle.un_dirty.proofs.cells.put_row.Goals as goal

pub loop-column-preserved : goal.loop-column-preserved
loop-column-preserved c =
    let i = c.loop-column.invariant in
    let put = c.in_ok-put.ensures in
    record {
      all = λ k level low high row.
          one_more (λ n. k.column ≡ n → IsIn k c.args.area (arc_value c.args.rect.now) c.put.new.cells) c.loop-column.column
          (λ n below e. put.kept k c.args.area (arc_value c.args.rect.now) (λ _. refl) (i.all k level low (omega (arith, below, e)) row))
          (λ e. subst (λ q. IsIn q c.args.area (arc_value c.args.rect.now) c.put.new.cells) (λ j. record { level = sym level j; column = sym e j; row = sym row j }) put.here)
          k.column high (λ j. k.column);
      kept = λ k n s same h. put.kept k n s same (i.kept k n s same h);
    }
