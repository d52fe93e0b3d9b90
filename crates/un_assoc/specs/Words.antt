-- Which word an edit has.
use Rattle.std.specs.Prelude.{⊤}
use Rattle.un_defs.specs.declared.edit.Edit.{Edit}
use Rattle.un_defs.specs.declared.edit.Edit.TheVariants as edit

abbrev pub IsConnect : Edit → Type 0
IsConnect (edit.Connect from to) = ⊤
IsConnect _ = ⊥

abbrev pub IsContain : Edit → Type 0
IsContain (edit.Contain container content) = ⊤
IsContain _ = ⊥

abbrev pub IsAttach : Edit → Type 0
IsAttach (edit.Attach structure content) = ⊤
IsAttach _ = ⊥

abbrev pub IsDetach : Edit → Type 0
IsDetach (edit.Detach assoc) = ⊤
IsDetach _ = ⊥

abbrev pub IsController : Edit → Type 0
IsController (edit.Controller id terminal tier subnet) = ⊤
IsController _ = ⊥

abbrev pub IsUncontroller : Edit → Type 0
IsUncontroller (edit.Uncontroller id terminal) = ⊤
IsUncontroller _ = ⊥

-- the edits of associations and controllers
abbrev pub IsLinkEdit : Edit → Type 0
IsLinkEdit (edit.Connect from to) = ⊤
IsLinkEdit (edit.Contain container content) = ⊤
IsLinkEdit (edit.Attach structure content) = ⊤
IsLinkEdit (edit.Detach assoc) = ⊤
IsLinkEdit (edit.Controller id terminal tier subnet) = ⊤
IsLinkEdit (edit.Uncontroller id terminal) = ⊤
IsLinkEdit _ = ⊥
