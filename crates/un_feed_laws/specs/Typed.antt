-- What holds of each command that code can hold, whatever is checked before it is done: a subnetwork's name has the form of a name, and a
-- batch is short.
use Rattle.std.specs.Prelude.{◌≤◌, List, length, All, ⊤}
use Rattle.un_schema.specs.Names.{IsName}
use Rattle.un_defs.specs.declared.edit.Edit.{Edit}
use Rattle.un_defs.specs.declared.edit.Edit.TheVariants as edit
use Rattle.un_ask.specs.declared.request.Command.{Command}
use Rattle.un_ask.specs.declared.request.Command.TheVariants as command

abbrev pub IsTypedEdit : Edit → Type 0
IsTypedEdit (edit.Controller id terminal tier subnet) = IsName subnet
IsTypedEdit other = ⊤

-- the edits of a batch
pub record AreTyped (es : List Edit) : Type 0 where
  pub each : All IsTypedEdit es
  pub few : length es ≤ 256

abbrev pub IsTyped : Command → Type 0
IsTyped (command.Edit e) = IsTypedEdit e
IsTyped (command.Batch es) = AreTyped es
IsTyped other = ⊤
