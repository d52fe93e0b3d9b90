use Rattle.std.proofs.Common.{◌≡◌, ◌∙◌, ap, subst, map}
use Rattle.std.specs.Map.{values_of}
use Rattle.un_pages.specs.Pairs.{IsOrdered}
use Rattle.un_subnet.specs.Stored.{marked}
use Rattle.un_subnet.specs.RowIndex.{made_in, dirty, changed_numbers}
use Rattle.un_subnet.proofs.Keys.{keys_alike}
use Rattle.un_subnet.proofs.Kept.{kept_marked}
use Rattle.un_subnet.proofs.Made.{made_all}
use Rattle.un_subnet.proofs.MarkedRows.{all_marked}
use Rattle.un_subnet.proofs.stored.StoredRows.marked.Goals as goal

pub invariant_of-result : goal.invariant_of-result
invariant_of-result c =
    kept_marked c.self.inside.rows c.self.inside.keys c.self.inside.next c.self.invariant c.mark_all.new.rows c.in_ok-keys.keys c.deref.result.now
    (c.in_ok-mark_all.ensures ∙ ap (made_in dirty c.deref.result.now) c.in_ok-rows.ensures) c.in_ok-keys.ensures

pub returns : goal.returns
returns c =
    let rows = c.self.inside.rows in
    let keys = c.self.inside.keys in
    let changes = c.args.changes.now in
    let numbers : c.deref.result.now ≡ changed_numbers rows keys changes = c.deref.ensures.value ∙ c.in_ok-numbers.ensures in
    let ordered = subst (λ cmp. IsOrdered cmp keys) keys_alike c.len-keys.ensures.ordered in
    ap values_of (c.in_ok-mark_all.ensures ∙ ap (made_in dirty c.deref.result.now) c.in_ok-rows.ensures ∙ ap (λ ns. made_in dirty ns rows) numbers)
    ∙ made_all dirty (marked changes) (changed_numbers rows keys changes) rows
    (all_marked changes rows keys c.self.invariant.index c.len-rows.ensures.ordered ordered rows (λ e i. i))
    ∙ ap (map (marked changes)) c.self.view_is
