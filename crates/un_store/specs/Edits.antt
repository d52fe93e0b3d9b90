-- The rows after an edit, of a network that has only rows.
use Rattle.std.specs.Prelude.{◌≡◌, ⊤, ℕ, ◌==◌, List, [], map, length, All, Some, if◌then◌else◌}
use Rattle.std.specs.List.{list_any}
use Rattle.un_schema.specs.Catalog.{Catalog}
use Rattle.un_defs.specs.declared.row.Row.{Row}
use Rattle.un_defs.specs.declared.edit.Edit.{Edit}
use Rattle.un_defs.specs.declared.edit.Edit.TheVariants as edit
use Rattle.un_defs.specs.Features.{Features}
use Rattle.un_defs.specs.Sound.{FitsKind}
use Rattle.un_defs.specs.Change.{Setting, Next, changed, change_row}
use Rattle.un_defs.specs.Laws.{MayBeMade}
use Rattle.un_store.specs.declared.change.RowChange.{RowChange}
use Rattle.un_store.specs.Keyed.{row_with}
use Rattle.un_store.specs.Changes.{applied}

abbrev pub setting_of : Catalog → Setting
setting_of S = record { catalog = S; tiers = [] }

abbrev pub next_of : ℕ → ℕ → Next
next_of id moment = record { feature = id; association = 0; moment = moment }

abbrev pub only_rows : List Row → Features
only_rows rows = record { rows = rows; associations = []; controllers = []; rules = [] }

-- the rows after an edit that is accepted, by the id of the next row and the moment of what changes
abbrev pub rows_after : Catalog → ℕ → ℕ → List Row → Edit → List Row
rows_after S id moment rows e = (changed (setting_of S) (next_of id moment) (only_rows rows) e).rows

-- the change leaves the rows that the edit leaves
abbrev pub IsChangeOf : Catalog → ℕ → ℕ → List Row → Edit → RowChange → Type 0
IsChangeOf S id moment rows e change = applied rows change ≡ rows_after S id moment rows e

-- the rows that an edit leaves are told by the rows alone, whatever else the network has
abbrev pub RowsAloneLaw : Type 0
RowsAloneLaw = (T : Setting) (next : Next) (F : Features) (e : Edit) →
    (changed T next F e).rows ≡ rows_after T.catalog next.feature next.moment F.rows e

-- the row that the edit makes or changes fits its kind
abbrev pub Fits : Catalog → ℕ → ℕ → List Row → Edit → Type 0
Fits S id moment rows e = MayBeMade (setting_of S) (next_of id moment) (only_rows rows) e

-- where all rows fit their kinds, so does the row that the edit makes or changes
abbrev pub KeepsFit : Catalog → ℕ → ℕ → List Row → Edit → Type 0
KeepsFit S id moment rows e = All (FitsKind S) rows → Fits S id moment rows e

-- the edits that make a row, or change what its kind asks of it
abbrev pub IsOfRow : Edit → Type 0
IsOfRow (edit.Insert kind points attrs flow ends note) = ⊤
IsOfRow (edit.Reshape id base points) = ⊤
IsOfRow (edit.Kind id base kind) = ⊤
IsOfRow (edit.Path id base path) = ⊤
IsOfRow _ = ⊥

-- and whether it fits is told by the rows alone too
abbrev pub FitsAloneLaw : Type 0
FitsAloneLaw = (T : Setting) (next : Next) (F : Features) (e : Edit) →
    IsOfRow e → Fits T.catalog next.feature next.moment F.rows e → MayBeMade T next F e

-- the rows once this row stands in place of the one with this id: whatever change makes it of that one is made there
abbrev pub IsReplaced : List Row → ℕ → Row → List Row → Type 0
IsReplaced rows id row after = (change : Row → Row) (old : Row) → row_with rows id ≡ Some old → row ≡ change old →
    after ≡ (change_row (only_rows rows) id change).rows

-- each configuration has as many paths as names of paths
abbrev pub HasPaths : Catalog → Type 0
HasPaths S = All (λ c. length c.paths ≡ length c.config.paths) S.configs

-- the row at a moment
abbrev pub at_moment : ℕ → Row → Row
at_moment moment r = record r { moment = moment }

-- the rows once those with these ids have the moment
abbrev pub settled : List ℕ → ℕ → List Row → List Row
settled ids moment rows = map (λ r. if list_any (λ id. id == r.id) ids then at_moment moment r else r) rows
