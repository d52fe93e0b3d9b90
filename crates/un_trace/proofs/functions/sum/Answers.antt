use Rattle.std.proofs.Common.{arith, ◌∙◌, ap, fold, ◌+ℤ◌, pos, take_all}
use Rattle.std.proofs.lemmas.Int.{ints, to_z-of_z}
use Rattle.std.proofs.lemmas.List.Sums.{fold_more}
use Rattle.un_trace.proofs.Sums.{sum_is}
use Rattle.un_trace.proofs.functions.sum.Goals as goal

pub loop-value-preserved : goal.loop-value-preserved
loop-value-preserved c = record {
  sum = grind (arith, ints, to_z-of_z, fold_more);
  low = omega (arith, ints);
  high = omega (arith, ints);
}

pub returns : goal.returns
returns c =
    c.loop-value.invariant.sum ∙ ap (fold ◌+ℤ◌ (pos 0)) (take_all c.loop-value.value-index c.args.values.now c.loop-value-test.false) ∙ sum_is c.args.values.now
