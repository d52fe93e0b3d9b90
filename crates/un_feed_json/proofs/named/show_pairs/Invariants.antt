use Rattle.std.proofs.Common.{◌≡◌, drop}
use Rattle.un_feed_json.proofs.Sorted.{AreWrittenBut}
use Rattle.un_feed_json.proofs.named.show_pairs.Given as goal

abbrev pub invariant-loop-pair : goal.invariant-loop-pair
invariant-loop-pair l = record {
  text : AreWrittenBut l.fn.out.tokens (drop l.pair-index l.pairs) l.pairs l.out.tokens;
  before : l.out.before ≡ l.fn.out.before;
}
