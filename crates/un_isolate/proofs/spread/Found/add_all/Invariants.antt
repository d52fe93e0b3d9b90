use Rattle.std.proofs.Common.{take}
use Rattle.un_isolate.specs.Spread.{Adds}
use Rattle.un_isolate.proofs.spread.Found.add_all.Given as goal

abbrev pub invariant-loop-place : goal.invariant-loop-place
invariant-loop-place l = Adds l.fn.self l.self (take l.place-index l.places)
