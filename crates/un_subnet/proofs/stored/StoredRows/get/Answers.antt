use Rattle.std.proofs.Common.{ℕ, ◌∙◌, ap, Some}
use Rattle.std.specs.Option.{option_map}
use Rattle.un_ask.specs.declared.stored.StoredSubnet.{StoredSubnet}
use Rattle.un_subnet.specs.Outcome.{is_row_of}
use Rattle.un_subnet.specs.Stored.{under, row_for}
use Rattle.un_subnet.proofs.Numbered.{found_value}
use Rattle.un_subnet.proofs.stored.StoredRows.get.Goals as goal

pub returns-in_err-entry : goal.returns-in_err-entry
returns-in_err-entry c =
    ap (option_map _) c.from_residual.ensures
    ∙ ap (option_map (λ (e : ℕ × StoredSubnet). e.1)) c.in_err-entry.ensures
    ∙ found_value (is_row_of c.args.tier c.args.subnet.now) c.self.inside.rows
    ∙ ap (λ rows. row_for rows c.args.tier c.args.subnet.now) c.self.view_is

pub returns : goal.returns
returns c =
    ap (λ row. Some (under (row, c.entry.inside.status))) c.deref.ensures
    ∙ ap Some c.entry.view_is
    ∙ ap (option_map (λ (e : ℕ × StoredSubnet). e.1)) c.in_ok-entry.ensures
    ∙ found_value (is_row_of c.args.tier c.args.subnet.now) c.self.inside.rows
    ∙ ap (λ rows. row_for rows c.args.tier c.args.subnet.now) c.self.view_is
