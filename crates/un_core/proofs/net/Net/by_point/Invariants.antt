use Rattle.un_rebuild.specs.Preparing.{AreFresh}
use Rattle.un_core.specs.State.{known}
use Rattle.un_core.proofs.net.Net.by_point.Given as goal

-- the stars so far are those of the features
abbrev pub invariant-loop-point : goal.invariant-loop-point
invariant-loop-point l = AreFresh (known l.self) l.stars
