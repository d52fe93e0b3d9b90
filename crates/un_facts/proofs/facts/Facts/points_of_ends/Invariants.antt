use Rattle.std.proofs.Common.{◌≡◌, flat_map, take, All}
use Rattle.un_geom.specs.Places.{IsPlace}
use Rattle.un_facts.specs.Ruling.{points_between}
use Rattle.un_facts.proofs.facts.Facts.points_of_ends.Given as goal

-- the points of the associations so far, each of which is a place
abbrev pub invariant-loop-assoc : goal.invariant-loop-assoc
invariant-loop-assoc l = (l.points.items ≡ flat_map (points_between l.self.features l.sort l.first l.second) (take l.assoc-index l.found)) × All IsPlace l.points.items
