use Rattle.std.proofs.Common.{◌≡◌, map, take}
use Rattle.un_core.specs.Named.{pair_of}
use Rattle.un_core.proofs.feature.pairs_of.Given as goal

-- the pairs so far
abbrev pub invariant-loop-named : goal.invariant-loop-named
invariant-loop-named l = l.pairs.items ≡ map pair_of (take l.named-index l.all)
