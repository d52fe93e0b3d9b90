use Rattle.std.proofs.Common.{◌≡◌, drop}
use Rattle.un_replies.proofs.Shows.{AreWrittenBut}
use Rattle.un_replies.proofs.feature.show_pairs.Given as goal

abbrev pub invariant-loop-name : goal.invariant-loop-name
invariant-loop-name l = record {
  text : AreWrittenBut l.fn.out.tokens (drop l.name-index l.pairs) l.pairs l.out.tokens;
  before : l.out.before ≡ l.fn.out.before;
}
