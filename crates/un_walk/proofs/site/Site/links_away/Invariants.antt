use Rattle.std.proofs.Common.{◌≤◌, take, sum_by}
use Rattle.un_walk.specs.Site.{ties_away}
use Rattle.un_walk.proofs.site.Site.links_away.Given as goal

-- no more than lead away from the entries so far
abbrev pub invariant-loop-spot : goal.invariant-loop-spot
invariant-loop-spot l = l.count ≤ sum_by (ties_away l.self.at) (take l.spot-index l.spot-items)
