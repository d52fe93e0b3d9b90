use Rattle.un_isolate.specs.Links.{AreTurned}
use Rattle.un_isolate.proofs.links.links_back.Given as goal

abbrev pub invariant-loop-place : goal.invariant-loop-place
invariant-loop-place l = AreTurned l.links l.back.items l.place
