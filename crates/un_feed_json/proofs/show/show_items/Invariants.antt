use Rattle.std.proofs.Common.{◌≡◌, drop}
use Rattle.un_values.proofs.Shows.{IsWrittenBut}
use Rattle.un_feed_json.proofs.show.show_items.Given as goal

abbrev pub invariant-loop-value : goal.invariant-loop-value
invariant-loop-value g l = record {
  text : IsWrittenBut (g.T.Show.json_value l.schema l.tiers) l.fn.out.tokens (drop l.value-index l.values) l.values l.out.tokens;
  before : l.out.before ≡ l.fn.out.before;
}
