use Rattle.std.proofs.Common.{◌≡◌, ◌<◌, ◌≤◌, length, Some, rules, sym, ◌∙◌}
use Rattle.serde_json.specs.View.{view, items_view}
use Rattle.serde_json.specs.Find.{as_array}
use Rattle.un_json.specs.Forms.{list_of}
use Rattle.un_schema_json.proofs.Lengths.{too_long, short}
use Rattle.un_schema_json.proofs.list.read_up_to.Goals as goal

pub returns-then-as_slice-most : goal.returns-then-as_slice-most
returns-then-as_slice-most g c =
    let items : Some (items_view c.as_slice.result.now) ≡ as_array (view c.args.value.now) = rw c.as_slice.ensures.value (rw c.in-Some.is at c.as_array.ensures) in
    let long : c.args.most < length c.as_slice.result.now = c.if-as_slice-most.true in
    too_long g.F.Form.form c.args.most (view c.args.value.now) c.as_slice.result.now items long

pub returns-in-Some-2 : goal.returns-in-Some-2
returns-in-Some-2 g c =
    let items : Some (items_view c.as_slice.result.now) ≡ as_array (view c.args.value.now) = rw c.as_slice.ensures.value (rw c.in-Some.is at c.as_array.ensures) in
    let few : length c.as_slice.result.now ≤ c.args.most = c.if-as_slice-most.false in
    let read : Some c.new.result ≡ list_of g.F.Form.form (view c.args.value.now) = rw c.new.ensures (search rules) in
    read ∙ sym (short g.F.Form.form c.args.most (view c.args.value.now) c.as_slice.result.now items few)
