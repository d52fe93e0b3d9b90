use Rattle.std.proofs.Common.{take}
use Rattle.un_path.specs.Checking.{KeepsHops}
use Rattle.un_path.proofs.certificate.keeps_hops.Given as goal

abbrev pub invariant-loop-hop : goal.invariant-loop-hop
invariant-loop-hop l = KeepsHops l.costs l.cost (take l.hop-index l.hops)
