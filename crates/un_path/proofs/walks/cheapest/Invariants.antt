use Rattle.std.proofs.Common.{take}
use Rattle.un_path.specs.Checking.{IsCheapest}
use Rattle.un_path.proofs.walks.cheapest.Given as goal

abbrev pub invariant-loop-hop : goal.invariant-loop-hop
invariant-loop-hop l = IsCheapest l.nodes l.port (take l.hop-index l.hops) l.best
