use Rattle.std.proofs.Common.{◌≡◌, drop}
use Rattle.un_values.proofs.Shows.{IsWrittenBut}
use Rattle.un_replies.proofs.to_json.show_items.Given as goal

abbrev pub invariant-loop-value : goal.invariant-loop-value
invariant-loop-value g l = record {
  text : IsWrittenBut g.T.ToJson.json_value l.fn.out.tokens (drop l.value-index l.values) l.values l.out.tokens;
  before : l.out.before ≡ l.fn.out.before;
}
