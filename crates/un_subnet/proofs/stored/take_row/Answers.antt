use Rattle.std.proofs.Common.{◌≡◌, ◌==◌, ◌&&◌, not, ◌∙◌, ap, sym}
use Rattle.un_subnet.specs.RowIndex.{concerns, has_key, is_concerned}
use Rattle.un_subnet.proofs.Numbered.{remove_none}
use Rattle.un_subnet.proofs.Indexed.{concerned_less}
use Rattle.un_subnet.proofs.stored.take_row.Goals.{in-Some+in_ok-take_keys, in_default}
use Rattle.un_subnet.proofs.stored.take_row.Goals as goal

pub returns-clause-index : goal.returns-clause-index
returns-clause-index c = λ q. elim c.match-get.branch [
  | in-Some+in_ok-take_keys w ↦
      let row : concerns q.subject w.deref.result.now ≡ concerns q.subject w.in-Some.entry.now = ap (concerns q.subject) w.deref.ensures ∙ ap (concerns q.subject) w.entry.view_is in
      ap (has_key q) w.keys-is ∙ w.in_ok-take_keys.ensures q
      ∙ ap (λ b. not (q.number == c.args.number && b) && has_key q c.args.keys.now) row
      ∙ ap (λ b. not (q.number == c.args.number && concerns q.subject w.in-Some.entry.now) && b) (c.requires q)
      ∙ concerned_less q c.args.rows.now c.args.number w.in-Some.entry.now c.len-len.ensures.ordered (sym w.in-Some.ensures)
      ∙ ap (is_concerned q) (sym c.in_ok-take.ensures.ok)
  | in_default w ↦
      ap (has_key q) w.keys-is ∙ c.requires q
      ∙ sym (ap (is_concerned q) (c.in_ok-take.ensures.ok ∙ remove_none c.args.number c.args.rows.now (sym w.in_default.ensures)))
]
