use Rattle.std.proofs.Common.{◌≡◌, map, take}
use Rattle.std.specs.Map.Iter.{deref}
use Rattle.un_trace.specs.Functions.{total_of}
use Rattle.un_trace.proofs.functions.totals.Given as goal

abbrev pub invariant-loop-function : goal.invariant-loop-function
invariant-loop-function l = l.totals.items ≡ map (total_of (map deref l.spots) l.count) (take l.function-index l.functions)
