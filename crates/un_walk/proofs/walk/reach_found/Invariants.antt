use Rattle.std.proofs.Common.{◌≤◌, ◌+◌, ◌-◌, ◌*◌, ◌^◌, length, take}
use Rattle.un_walk.specs.Found.{nodes, IsFoundOver}
use Rattle.un_walk.specs.Ticks.{IsLookedUpOnce}
use Rattle.un_walk.proofs.Walking.{IsWalking}
use Rattle.un_walk.proofs.DirtMet.{IsDirtOf}
use Rattle.un_walk.proofs.walk.reach_found.Given as goal

-- the starts that were begun are found, and the nodes before the next are visited: their links are done or put off, their dirt is known, the
-- count has not fallen, and no more stars were looked up than nodes are found
abbrev pub invariant-loop-begun : goal.invariant-loop-begun
invariant-loop-begun g l = record {
  within : l.next ≤ length (nodes l.found);
  left : l.begun ≤ length l.starts;
  over : IsFoundOver (g.G.Ground.stars_and_areas l.over) l.found;
  walking : IsWalking (g.G.Ground.stars_and_areas l.over) l.barriers l.mode (take l.begun l.starts) l.found l.aways.items l.next;
  dirt : IsDirtOf (g.G.Ground.stars_and_areas l.over) (take l.next (nodes l.found)) l.least;
  rises : l.fn.steps ≤ l.steps;
  counted : IsLookedUpOnce (g.G.Ground.stars_and_areas l.over) l.barriers → l.steps ≤ l.fn.steps + length (nodes l.found);
}

-- between two visits each turn begins a start or follows a link that was put off; of these there are fewer than 2^64
abbrev pub decreases-loop-begun : goal.decreases-loop-begun
decreases-loop-begun g l = (length l.starts - l.begun) + 2 ^ 64 * (2 ^ 64 - l.next) + length l.aways.items
