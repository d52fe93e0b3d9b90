use Rattle.std.proofs.Common.{◌≡◌, fold, take}
use Rattle.std.specs.Int.{int_min}
use Rattle.un_trace.proofs.functions.least_from.Given as goal

abbrev pub invariant-loop-value : goal.invariant-loop-value
invariant-loop-value l = l.least ≡ fold int_min l.fn.first (take l.value-index l.rest)
