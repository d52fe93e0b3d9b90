use Rattle.std.proofs.Common.{◌≤◌, ◌+◌, length, drop}
use Rattle.un_walk.specs.Found.{nodes, IsFoundOver}
use Rattle.un_walk.specs.Ticks.{TiesStay}
use Rattle.un_walk.proofs.Following.{IsFollowing}
use Rattle.un_walk.proofs.traversal.follow.Given as goal

-- the links from this one on are followed or put off, the count has not fallen, and no more stars were looked up than nodes were added if none of
-- the node's links asks for one
abbrev pub invariant-loop-index : goal.invariant-loop-index
invariant-loop-index g l = record {
  over : IsFoundOver (g.G.Ground.stars_and_areas l.over) l.found;
  following : IsFollowing (g.G.Ground.stars_and_areas l.over) l.barriers l.mode l.place.node l.place.number l.fn.found l.found l.fn.aways.items l.aways.items (drop l.index l.ties);
  rises : l.fn.steps ≤ l.steps;
  counted : TiesStay (g.G.Ground.stars_and_areas l.over) l.barriers l.place.node → l.steps + length (nodes l.fn.found) ≤ l.fn.steps + length (nodes l.found);
}
