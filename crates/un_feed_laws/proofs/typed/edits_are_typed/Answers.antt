use Rattle.std.proofs.Common.{subst, All}
use Rattle.std.proofs.lemmas.List.{take_all}
use Rattle.std.proofs.lemmas.List.Elements.{All-more}
use Rattle.un_feed_laws.specs.Typed.{IsTypedEdit}
use Rattle.un_feed_laws.proofs.typed.edits_are_typed.Goals as goal

pub loop-edit-preserved : goal.loop-edit-preserved
loop-edit-preserved c =
    All-more IsTypedEdit c.args.edits.now c.loop-edit.edit-index c.edit-item.result c.loop-edit-test.true c.loop-edit.invariant
    (subst IsTypedEdit c.edit-item.is c.edit_is_typed.ensures)

pub returns : goal.returns
returns c = subst (All IsTypedEdit) (take_all c.loop-edit.edit-index c.args.edits.now c.loop-edit-test.false) c.loop-edit.invariant
