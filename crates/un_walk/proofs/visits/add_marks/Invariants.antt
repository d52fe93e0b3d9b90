use Rattle.std.proofs.Common.{◌≡◌, ◌++◌, take}
use Rattle.un_walk.specs.Visits.{unfound_in}
use Rattle.un_walk.proofs.visits.add_marks.Given as goal

-- the marks of the entries so far
abbrev pub invariant-loop-spot : goal.invariant-loop-spot
invariant-loop-spot l = l.marks.items ≡ l.initial.marks.items ++ unfound_in (take l.spot-index l.spots)
