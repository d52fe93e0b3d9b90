use Rattle.std.proofs.Common.{◌≡◌, take}
use Rattle.un_subnet.specs.Changes.{gathered_at}
use Rattle.un_subnet.proofs.changes.gather.Given as goal

-- the changes at the points so far
abbrev pub invariant-loop-point : goal.invariant-loop-point
invariant-loop-point g l = l.found ≡ gathered_at (g.G.Ground.stars_and_areas l.before).stars (g.H.Ground.stars_and_areas l.after).stars (take l.point-index l.points)
