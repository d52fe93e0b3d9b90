use Rattle.std.proofs.Common.{◌∙◌, ap, sym}
use Rattle.std.specs.Option.{unwrap_or}
use Rattle.std.specs.BTreeMap.{insert_entry}
use Rattle.std.specs.Ordering.{nat_cmp}
use Rattle.un_subnet.specs.RowIndex.{dirty}
use Rattle.un_subnet.proofs.Made.{made_none, made_same, made_put}
use Rattle.un_subnet.proofs.marking.mark.Goals as goal

pub returns-in_default : goal.returns-in_default
returns-in_default c = sym (made_none dirty c.args.number c.args.rows.now (sym c.in_default.ensures))

pub returns-in_ok-put : goal.returns-in_ok-put
returns-in_ok-put c =
    let made = ap (λ o. unwrap_or o c.in-Some.entry.now) (sym c.in-Some-2.is) ∙ c.in_ok-entry.ensures in
    c.in_ok-put.ensures.ok ∙ ap (insert_entry nat_cmp c.args.rows.now c.args.number) (c.in_ok-new.ensures.ok ∙ made)
    ∙ made_put dirty c.args.number c.in-Some.entry.now c.args.rows.now c.len-len.ensures.ordered (sym c.in-Some.ensures)

pub returns-in_default-2 : goal.returns-in_default-2
returns-in_default-2 c =
    let same = ap (λ o. unwrap_or o c.in-Some.entry.now) (sym c.in_default-2.is) ∙ c.in_ok-entry.ensures in
    sym (made_same dirty c.args.number c.in-Some.entry.now c.args.rows.now c.len-len.ensures.ordered (sym c.in-Some.ensures) (sym same))
