use Rattle.std.proofs.Common.{◌∙◌, ap, sym, length, arith}
use Rattle.un_subnet.specs.Outcome.{is_row_of}
use Rattle.un_subnet.specs.RowIndex.{others_in}
use Rattle.un_subnet.proofs.Numbered.{removed_found, none_left}
use Rattle.un_subnet.proofs.stored.take_rows_of.Goals as goal

pub loop-number-smaller : goal.loop-number-smaller
loop-number-smaller c =
    let found = removed_found (is_row_of c.args.tier c.args.subnet.now) c.loop-number.rows c.in-Some.number c.in-Some.field-0-1.now c.len-len.ensures.ordered (sym c.in-Some.ensures) in
    let less = found.1 in
    let gone = ap length c.in_ok-take_row.ensures.rows in
    omega arith

pub loop-number-preserved : goal.loop-number-preserved
loop-number-preserved c = record {
  index = c.in_ok-take_row.ensures.index;
  others =
      ap (λ rows. others_in rows c.args.tier c.args.subnet.now) c.in_ok-take_row.ensures.rows
      ∙ (removed_found (is_row_of c.args.tier c.args.subnet.now) c.loop-number.rows c.in-Some.number c.in-Some.field-0-1.now c.len-len.ensures.ordered (sym c.in-Some.ensures)).0
      ∙ c.loop-number.invariant.others;
}

pub returns-clause-rows : goal.returns-clause-rows
returns-clause-rows c =
    sym (none_left (is_row_of c.args.tier c.args.subnet.now) c.loop-number.rows (sym c.in_default.ensures)) ∙ c.loop-number.invariant.others
