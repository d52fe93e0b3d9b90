use Rattle.un_loops.specs.Network.{IsGraphOver}
use Rattle.un_loops.proofs.graph.forest.Given as goal

abbrev pub invariant-loop-place : goal.invariant-loop-place
invariant-loop-place g l = IsGraphOver (g.G.Ground.stars_and_areas l.over) l.barriers l.found l.graph l.place
