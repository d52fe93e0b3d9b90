use Rattle.std.proofs.Common.{◌≡◌, take}
use Rattle.un_terms.proofs.path.own_pairs.Given as goal

abbrev pub invariant-loop-pair : goal.invariant-loop-pair
invariant-loop-pair l = l.own.items ≡ take l.pair-index l.pairs
