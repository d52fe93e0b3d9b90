use Rattle.std.proofs.Common.{take}
use Rattle.un_path.specs.Hops.{AreHopsBy}
use Rattle.un_path.proofs.hops.hops_by.Given as goal

-- the hops by the links so far
abbrev pub invariant-loop-tie : goal.invariant-loop-tie
invariant-loop-tie l = AreHopsBy l.weight l.nodes l.spot (take l.tie-index l.tie-items) l.hops.items
