use Rattle.std.proofs.Common.{All, take}
use Rattle.un_feed_laws.specs.Typed.{IsTypedEdit}
use Rattle.un_feed_laws.proofs.typed.edits_are_typed.Given as goal

abbrev pub invariant-loop-edit : goal.invariant-loop-edit
invariant-loop-edit l = All IsTypedEdit (take l.edit-index l.edits)
