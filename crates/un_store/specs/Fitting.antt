-- What is to be shown of edits of rows for which no refusal is due.
use Rattle.std.specs.Prelude.{◌≡◌, ℕ, List, [], All, None}
use Rattle.un_schema.specs.Catalog.{Catalog}
use Rattle.un_schema.specs.Sound.{IsCatalog}
use Rattle.un_defs.specs.declared.row.Row.{Row}
use Rattle.un_defs.specs.declared.edit.Edit.{Edit}
use Rattle.un_defs.specs.Features.{Features}
use Rattle.un_defs.specs.Sound.{FitsKind}
use Rattle.un_defs.specs.Change.{Setting, Next}
use Rattle.un_defs.specs.Laws.{MayBeMade}
use Rattle.un_store.specs.Words.{IsInsert, IsRowEdit}
use Rattle.un_store.specs.Refusals.{refusal_of}
use Rattle.un_store.specs.Edits.{Fits, IsOfRow}

-- the row that an insert makes fits its kind
abbrev pub InsertFitsLaw : Type 0
InsertFitsLaw = (S : Catalog) (id moment : ℕ) (rows : List Row) (e : Edit) → IsCatalog S → IsInsert e → refusal_of S rows e ≡ None → Fits S id moment rows e

-- where all rows fit their kinds, each edit of a row leaves one that fits
abbrev pub EditFitsLaw : Type 0
EditFitsLaw = (S : Catalog) (id moment : ℕ) (rows : List Row) (e : Edit) →
    IsCatalog S → All (FitsKind S) rows → IsOfRow e → refusal_of S rows e ≡ None → Fits S id moment rows e

-- of a network that has rows alone, where all of them fit their kinds, each edit of rows may be made
abbrev pub MayBeMadeLaw : Type 0
MayBeMadeLaw = (T : Setting) (next : Next) (F : Features) (e : Edit) →
    IsCatalog T.catalog → All (FitsKind T.catalog) F.rows → F.associations ≡ [] → F.controllers ≡ [] →
    IsRowEdit e → refusal_of T.catalog F.rows e ≡ None → MayBeMade T next F e
