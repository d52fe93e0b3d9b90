use Rattle.un_store.proofs.FirstRefusal.{NumberedUpto}
use Rattle.un_store.proofs.checks.numbers_of.Given as goal

abbrev pub invariant-loop-pair : goal.invariant-loop-pair
invariant-loop-pair l = NumberedUpto l.schema l.named l.pair-index l.pairs.items
