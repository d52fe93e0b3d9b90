-- What is known of a network apart from its topology: the schema and the tiers, and the features.
use Rattle.std.specs.Prelude.{ℕ, List, [], ◌∷◌, ◌++◌, map}
use Rattle.un_schema.specs.declared.rule.Rule.{Rule}
use Rattle.un_schema.specs.Catalog.{Catalog}
use Rattle.un_defs.specs.declared.row.Row.{Row}
use Rattle.un_defs.specs.declared.edit.Edit.{Edit}
use Rattle.un_defs.specs.Features.{Features}
use Rattle.un_defs.specs.Change.{Setting, Next, changed}
use Rattle.un_defs.specs.Laws.{MayBeMade}
use Rattle.un_store.specs.Edits.{settled}
use Rattle.un_assoc.specs.Links.{Links, with_links}
use Rattle.un_tiers.specs.declared.setup.Setup.{Setup}
use Rattle.un_facts.specs.declared.ids.NextIds.{NextIds}
use Rattle.un_facts.specs.Frames.{Framed}

-- the schema and the tiers that a network was opened with, and its features
pub record Known : Type 0 where
  pub setup : Setup
  pub features : Features

-- the schema with the rules in force, which may be more than its own
abbrev pub in_force : Known → Catalog
in_force K = record K.setup.schema { rules = K.features.rules }

-- the features that rows, associations and controllers are, under the rules in force
abbrev pub features_of : List Rule → List Row → Links → Features
features_of rules rows links = record { rows = rows; associations = links.associations; controllers = links.controllers; rules = rules }

-- what is known, by the parts in which it stands
abbrev pub known_of : Framed → List Row → Links → Known
known_of f rows links = record { setup = f.setup; features = features_of f.rules rows links }

-- the names that edits look up: those of the schema, and those of the tiers
abbrev pub setting : Setup → Setting
setting S = record { catalog = S.schema; tiers = map (λ t. t.name) S.tiers }

-- what the next edit gives, which is made at a moment
abbrev pub next_at : NextIds → ℕ → Next
next_at ids moment = record { feature = ids.feature; association = ids.association; moment = moment }

-- what is known once an edit is made
abbrev pub edited : Known → NextIds → ℕ → Edit → Known
edited K ids moment e = record K { features = changed (setting K.setup) (next_at ids moment) K.features e }

-- the edit may be made at the moment
abbrev pub MayBeEdited : Known → NextIds → ℕ → Edit → Type 0
MayBeEdited K ids moment e = MayBeMade (setting K.setup) (next_at ids moment) K.features e

-- what is known once the rows with these ids have the moment
abbrev pub settled_at : Known → List ℕ → ℕ → Known
settled_at K ids moment = record K { features = record K.features { rows = settled ids moment K.features.rows } }

-- what is known with these associations and controllers in place of its own
abbrev pub linked : Known → Links → Known
linked K links = record K { features = with_links K.features links }

-- what is known with these rules in force
abbrev pub with_rules : Known → List Rule → Known
with_rules K rules = record K { features = record K.features { rules = rules } }

-- what is known with one rule more in force
abbrev pub ruled : Known → Rule → Known
ruled K rule = with_rules K (K.features.rules ++ rule ∷ [])

-- before the first edit
abbrev pub opening : Setup → Known
opening S = record { setup = S; features = record { rows = []; associations = []; controllers = []; rules = S.schema.rules } }
