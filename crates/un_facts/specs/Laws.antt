-- What holds of edits for which no refusal is due, as statements.
use Rattle.std.specs.Prelude.{◌≡◌, ℕ, true, None}
use Rattle.un_schema.specs.Sound.{IsCatalog}
use Rattle.un_defs.specs.declared.edit.Edit.{Edit}
use Rattle.un_defs.specs.Sound.{IsSound}
use Rattle.un_defs.specs.Laws.{MayBeMade}
use Rattle.un_facts.specs.declared.ids.NextIds.{NextIds}
use Rattle.un_facts.specs.Known.{Known, setting, next_at}
use Rattle.un_facts.specs.Refusals.{is_of_features, refusal_of}

-- an edit for which no refusal is due may be made
abbrev pub MayBeMadeLaw : Type 0
MayBeMadeLaw = (K : Known) (ids : NextIds) (moment : ℕ) (e : Edit) →
    IsCatalog K.setup.schema → IsSound K.setup.schema K.features → is_of_features e ≡ true → refusal_of K e ≡ None → MayBeMade (setting K.setup) (next_at ids moment) K.features e
