use Rattle.std.proofs.Common.{◌==◌, ◌&&◌, ◌||◌, ◌∙◌, ap, sym}
use Rattle.std.specs.BTreeMap.{insert_entry}
use Rattle.std.specs.Ordering.{nat_cmp}
use Rattle.un_subnet.specs.RowIndex.{concerns, is_concerned}
use Rattle.un_subnet.proofs.Numbered.{insert_last}
use Rattle.un_subnet.proofs.Indexed.{concerned_more}
use Rattle.un_subnet.proofs.stored.add_row.Goals as goal

pub returns-clause-rows : goal.returns-clause-rows
returns-clause-rows c =
    c.in_ok-put.ensures.ok
    ∙ ap (insert_entry nat_cmp c.args.rows.now c.args.number) (c.in_ok-new.ensures.ok ∙ c.in_ok-entry.ensures)
    ∙ insert_last c.args.number c.args.row c.args.rows.now c.requires.below

pub returns-clause-index : goal.returns-clause-index
returns-clause-index c = λ q.
    c.in_ok-put_keys.ensures q
    ∙ ap (λ b. (q.number == c.args.number && concerns q.subject c.args.row) || b) (c.requires.index q)
    ∙ concerned_more q c.args.rows.now c.args.number c.args.row
    ∙ ap (is_concerned q) (sym (returns-clause-rows c))
