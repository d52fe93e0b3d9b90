use Rattle.std.proofs.Common.{◌∙◌, ap}
use Rattle.std.specs.Map.{values_of}
use Rattle.un_subnet.specs.Outcome.{is_row_of, other_rows}
use Rattle.un_subnet.specs.RowIndex.{others_in}
use Rattle.un_subnet.proofs.Numbered.{others_values}
use Rattle.un_subnet.proofs.Kept.{kept_others}
use Rattle.un_subnet.proofs.stored.StoredRows.others.Goals as goal

pub invariant_of-result : goal.invariant_of-result
invariant_of-result c =
    kept_others c.self.inside.rows c.self.inside.keys c.self.inside.next c.self.invariant c.take_rows_of.new.rows c.take_rows_of.new.keys c.args.tier c.args.subnet.now
    (c.in_ok-take_rows_of.ensures.rows ∙ ap (λ rows. others_in rows c.args.tier c.args.subnet.now) c.in_ok-rows.ensures)
    c.in_ok-take_rows_of.ensures.index

pub returns : goal.returns
returns c =
    ap values_of (c.in_ok-take_rows_of.ensures.rows ∙ ap (λ rows. others_in rows c.args.tier c.args.subnet.now) c.in_ok-rows.ensures)
    ∙ others_values (is_row_of c.args.tier c.args.subnet.now) c.self.inside.rows
    ∙ ap (λ rows. other_rows rows c.args.tier c.args.subnet.now) c.self.view_is
