use Rattle.un_loops.specs.Heads.{AreHeads, AreSpanned}
use Rattle.un_loops.proofs.cycles.climb_all.Given as goal

abbrev pub invariant-loop-index : goal.invariant-loop-index
invariant-loop-index l = record {
  heads : AreHeads l.links l.parents l.heads;
  spanned : AreSpanned l.links l.parents l.heads l.index;
}
