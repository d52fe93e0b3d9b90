use Rattle.std.proofs.Common.{drop}
use Rattle.un_json.proofs.Items.{HasRead}
use Rattle.un_json.proofs.list.read_items.Given as goal

abbrev pub invariant-loop-value : goal.invariant-loop-value
invariant-loop-value g l = HasRead g.F.Form.form l.items.items (drop l.value-index l.values) l.values
