use Rattle.std.proofs.Common.{◌≡◌, take}
use Rattle.un_walk.specs.Seen.{nodes_of}
use Rattle.un_walk.proofs.walk.nodes_of.Given as goal

abbrev pub invariant-loop-one : goal.invariant-loop-one
invariant-loop-one l = l.nodes.items ≡ nodes_of (take l.one-index l.seen)
