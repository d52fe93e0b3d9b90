-- Which word an edit has, and the row that it is of.
use Rattle.std.specs.Prelude.{⊤, ℕ}
use Rattle.un_defs.specs.declared.edit.Edit.{Edit}
use Rattle.un_defs.specs.declared.edit.Edit.TheVariants as edit

abbrev pub IsInsert : Edit → Type 0
IsInsert (edit.Insert kind points attrs flow ends note) = ⊤
IsInsert _ = ⊥

abbrev pub IsReshape : Edit → Type 0
IsReshape (edit.Reshape id base points) = ⊤
IsReshape _ = ⊥

abbrev pub IsAttrs : Edit → Type 0
IsAttrs (edit.Attrs id base attrs) = ⊤
IsAttrs _ = ⊥

abbrev pub IsKind : Edit → Type 0
IsKind (edit.Kind id base kind) = ⊤
IsKind _ = ⊥

abbrev pub IsPath : Edit → Type 0
IsPath (edit.Path id base path) = ⊤
IsPath _ = ⊥

abbrev pub IsFlow : Edit → Type 0
IsFlow (edit.Flow id base flow) = ⊤
IsFlow _ = ⊥

abbrev pub IsEnds : Edit → Type 0
IsEnds (edit.Ends id base ends) = ⊤
IsEnds _ = ⊥

abbrev pub IsNote : Edit → Type 0
IsNote (edit.Note id base note) = ⊤
IsNote _ = ⊥

abbrev pub IsDelete : Edit → Type 0
IsDelete (edit.Delete id base) = ⊤
IsDelete _ = ⊥

-- the edits of rows
abbrev pub IsRowEdit : Edit → Type 0
IsRowEdit (edit.Insert kind points attrs flow ends note) = ⊤
IsRowEdit (edit.Reshape id base points) = ⊤
IsRowEdit (edit.Attrs id base attrs) = ⊤
IsRowEdit (edit.Kind id base kind) = ⊤
IsRowEdit (edit.Path id base path) = ⊤
IsRowEdit (edit.Flow id base flow) = ⊤
IsRowEdit (edit.Ends id base ends) = ⊤
IsRowEdit (edit.Note id base note) = ⊤
IsRowEdit (edit.Delete id base) = ⊤
IsRowEdit _ = ⊥

-- the id of the row that an edit makes or changes: a new one gets the next
abbrev pub row_of : ℕ → Edit → ℕ
row_of next (edit.Reshape id base points) = id
row_of next (edit.Attrs id base attrs) = id
row_of next (edit.Kind id base kind) = id
row_of next (edit.Path id base path) = id
row_of next (edit.Flow id base flow) = id
row_of next (edit.Ends id base ends) = id
row_of next (edit.Note id base note) = id
row_of next (edit.Delete id base) = id
row_of next _ = next
