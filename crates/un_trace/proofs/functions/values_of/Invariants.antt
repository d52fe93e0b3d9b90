use Rattle.std.proofs.Common.{◌≡◌, Some, map, take}
use Rattle.std.specs.Map.Iter.{deref}
use Rattle.un_trace.specs.Functions.{values_of}
use Rattle.un_trace.proofs.functions.values_of.Given as goal

abbrev pub invariant-loop-spot : goal.invariant-loop-spot
invariant-loop-spot l = l.values.items ≡ values_of (map deref (take l.spot-index l.spots)) (Some l.attribute)
