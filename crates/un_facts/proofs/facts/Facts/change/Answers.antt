use Rattle.std.proofs.Common.{sym, ◌∙◌}
use Rattle.un_facts.proofs.Makeable.{is_row, is_link}
use Rattle.un_facts.proofs.facts.Facts.change.Goals as goal

pub row_change-requires : goal.row_change-requires
row_change-requires c = record { word = is_row c.args.edit.now (sym c.is_row_edit.ensures ∙ c.if-is_row_edit.true); new = c.requires.new }

pub link_change-requires : goal.link_change-requires
link_change-requires c = record { word = is_link c.args.edit.now c.requires.word (sym c.is_row_edit.ensures ∙ c.if-is_row_edit.false); new = c.requires.new }
