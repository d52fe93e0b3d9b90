-- What an edit leaves of the features.
use Rattle.std.specs.Prelude.{◌≡◌, ℕ, None}
use Rattle.un_defs.specs.declared.edit.Edit.{Edit}
use Rattle.un_store.specs.declared.change.RowChange.{RowChange}
use Rattle.un_store.specs.Changes.{applied, id_of}
use Rattle.un_store.specs.Edits.{rows_after}
use Rattle.un_store.specs.Refusals.{refusal_of}
use Rattle.un_store.specs.Words.{IsRowEdit, row_of}
use Rattle.un_facts.specs.declared.ids.NextIds.{NextIds}
use Rattle.un_facts.specs.declared.edit.After.{After}
use Rattle.un_facts.specs.declared.edit.After.TheVariants.{Row, Links}
use Rattle.un_facts.specs.Known.{Known, edited, linked}
use Rattle.un_facts.specs.Standing.{IsKnown}

-- with this change the rows are those that the edit leaves, and the rows do not speak against it
pub record IsRowChange (K : Known) (ids : NextIds) (moment : ℕ) (e : Edit) (change : RowChange) : Type 0 where
  pub rows : applied K.features.rows change ≡ rows_after K.setup.schema ids.feature moment K.features.rows e
  pub id : id_of change ≡ row_of ids.feature e
  pub cause : refusal_of K.setup.schema K.features.rows e ≡ None

-- this is what the edit leaves
abbrev pub Follows : Known → NextIds → ℕ → Edit → After → Type 0
Follows K ids moment e (Row change) = IsRowEdit e × IsRowChange K ids moment e change
Follows K ids moment e (Links links) = IsKnown (linked K links) × (linked K links ≡ edited K ids moment e)
