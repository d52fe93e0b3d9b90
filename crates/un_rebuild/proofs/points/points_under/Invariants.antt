use Rattle.std.proofs.Common.{take}
use Rattle.un_rebuild.proofs.Pointed.{Gathers}
use Rattle.un_rebuild.proofs.points.points_under.Given as goal

-- the points of the areas so far are gathered
abbrev pub invariant-loop-area : goal.invariant-loop-area
invariant-loop-area l = Gathers l.facts.features l.kept (take l.area-index l.areas) l.gathered
