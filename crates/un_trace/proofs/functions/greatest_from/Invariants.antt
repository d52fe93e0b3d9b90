use Rattle.std.proofs.Common.{◌≡◌, fold, take}
use Rattle.std.specs.Int.{int_max}
use Rattle.un_trace.proofs.functions.greatest_from.Given as goal

abbrev pub invariant-loop-value : goal.invariant-loop-value
invariant-loop-value l = l.greatest ≡ fold int_max l.fn.first (take l.value-index l.rest)
