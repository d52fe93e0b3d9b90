-- Edits keep features in range, as a statement.
use Rattle.std.specs.Prelude.{◌≡◌, None}
use Rattle.un_schema.specs.Sound.{IsCatalog}
use Rattle.un_defs.specs.declared.edit.Edit.{Edit}
use Rattle.un_defs.specs.Change.{Next, changed}
use Rattle.un_facts.specs.Known.{Known, setting}
use Rattle.un_facts.specs.Refusals.{refusal_of}
use Rattle.un_feed_json.specs.Sound.{IsId}
use Rattle.un_feed_laws.specs.Ranges.{AreInRange}
use Rattle.un_feed_laws.specs.Typed.{IsTypedEdit}

-- an edit for which no refusal is due keeps the features in range, where the ids that it may give are in range
abbrev pub EditsStayInRangeLaw : Type 0
EditsStayInRangeLaw = (K : Known) (next : Next) (e : Edit) → IsCatalog K.setup.schema → IsTypedEdit e → IsId next.feature → IsId next.association
    → AreInRange K.setup.schema K.setup.tiers K.features → refusal_of K e ≡ None
    → AreInRange K.setup.schema K.setup.tiers (changed (setting K.setup) next K.features e)
