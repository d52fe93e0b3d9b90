-- What an accepted command does to the state.
use Rattle.std.specs.Prelude.{ℕ, ◌+◌, List, [], ◌∷◌, ◌++◌, length, Option, None, Some, option_to_list}
use Rattle.std.specs.List.{enumerate_from}
use Rattle.un_geom.specs.Rectangle.{Rectangle}
use Rattle.un_defs.specs.declared.edit.Edit.{Edit}
use Rattle.un_defs.specs.declared.edit.Edit.TheVariants as edit
use Rattle.un_defs.specs.Features.{Features}
use Rattle.un_defs.specs.Change.{Setting, Next, changed, after}
use Rattle.un_defs.specs.Dirtied.{dirtied}
use Rattle.un_defs.specs.Laws.{MayBeMade}
use Rattle.un_schema.specs.declared.rule.Rule.{Rule}
use Rattle.un_ask.specs.declared.rule.NamedRule.{NamedRule}
use Rattle.un_resolve.specs.Rules.{numbered}
use Rattle.un_ask.specs.declared.request.Command.{Command}
use Rattle.un_ask.specs.declared.request.Command.TheVariants as command
use Rattle.un_store.specs.Edits.{settled}
use Rattle.un_facts.specs.declared.ids.NextIds.{NextIds}
use Rattle.un_facts.specs.Known.{setting as names}
use Rattle.un_core.specs.State.{State, next_ids}
use Rattle.un_core.specs.Validation.{validated}
use Rattle.un_core.specs.Updating.{updated}

-- the names that edits look up: those of the schema, and those of the tiers
abbrev pub setting : State → Setting
setting s = names s.setup

-- what the next edit gives, which is made at a moment
abbrev pub next_with : State → ℕ → Next
next_with s moment = record { feature = s.next_feature; association = s.next_association; moment = moment }

abbrev pub next_of : State → Next
next_of s = next_with s (s.version + 1)

-- an edit that is made at a moment is one of which the laws of the topology speak
abbrev pub MayBeMadeAt : ℕ → State → Edit → Type 0
MayBeMadeAt moment s e = MayBeMade (setting s) (next_with s moment) s.features e

-- the state once an edit is made at a moment: its features are changed, and its rectangles are the next dirty areas; the version stays
abbrev pub made_at : ℕ → State → Edit → State
made_at moment s e = record s {
  features = changed (setting s) (next_with s moment) s.features e;
  areas = s.areas ++ enumerate_from s.next_area (dirtied s.features e);
  next_feature = (after (next_with s moment) e).feature;
  next_association = (after (next_with s moment) e).association;
  next_area = s.next_area + length (dirtied s.features e);
}

-- the state after an edit, whose version is one more
abbrev pub edited : State → Edit → State
edited s e = record (made_at (s.version + 1) s e) { version = s.version + 1 }

-- ---- batches

-- In a batch each edit is made on what the one before it left. What they make and change has the moment 0 until all are made.
abbrev pub made_by_all : State → List Edit → State
made_by_all s [] = s
made_by_all s (e ∷ es) = made_by_all (made_at 0 s e) es

-- the id that the reply to an edit tells: that of the feature that it makes or changes, or of the association
abbrev pub reply_id : NextIds → Edit → ℕ
reply_id ids (edit.Insert kind points attrs flow ends note) = ids.feature
reply_id ids (edit.Reshape id base points) = id
reply_id ids (edit.Attrs id base attrs) = id
reply_id ids (edit.Kind id base kind) = id
reply_id ids (edit.Path id base path) = id
reply_id ids (edit.Flow id base flow) = id
reply_id ids (edit.Ends id base ends) = id
reply_id ids (edit.Note id base note) = id
reply_id ids (edit.Delete id base) = id
reply_id ids (edit.Detach assoc) = assoc
reply_id ids (edit.Controller id terminal tier subnet) = id
reply_id ids (edit.Uncontroller id terminal) = id
reply_id ids _ = ids.association

abbrev pub id_of : State → Edit → ℕ
id_of s e = reply_id (next_ids s) e

-- the row that an edit makes or changes; an association, a controller and a rule change none
abbrev pub touched_row : NextIds → Edit → Option ℕ
touched_row ids (edit.Connect from to) = None
touched_row ids (edit.Contain container content) = None
touched_row ids (edit.Attach structure content) = None
touched_row ids (edit.Detach assoc) = None
touched_row ids (edit.Controller id terminal tier subnet) = None
touched_row ids (edit.Uncontroller id terminal) = None
touched_row ids (edit.Rule rule) = None
touched_row ids e = Some (reply_id ids e)

abbrev pub touched : State → Edit → List ℕ
touched s e = option_to_list (touched_row (next_ids s) e)

abbrev pub ids_of_all : State → List Edit → List ℕ
ids_of_all s [] = []
ids_of_all s (e ∷ es) = id_of s e ∷ ids_of_all (made_at 0 s e) es

abbrev pub touched_by_all : State → List Edit → List ℕ
touched_by_all s [] = []
touched_by_all s (e ∷ es) = touched s e ++ touched_by_all (made_at 0 s e) es

-- the rectangles that the edits make, in order
abbrev pub dirtied_by_batch : State → List Edit → List Rectangle
dirtied_by_batch s [] = []
dirtied_by_batch s (e ∷ es) = dirtied s.features e ++ dirtied_by_batch (made_at 0 s e) es

-- the features once the rows with these ids have the moment
abbrev pub settled_at : ℕ → List ℕ → Features → Features
settled_at moment ids F = record F { rows = settled ids moment F.rows }

-- the state after a batch, which is one step: the version is one more, and it is the moment of what the edits made and changed
abbrev pub batched : State → List Edit → State
batched s es = record (made_by_all s es) {
  features = settled_at (s.version + 1) (touched_by_all s es) (made_by_all s es).features;
  version = s.version + 1;
}

-- ---- rules

-- a rule with its kinds by number, where the schema has them all
abbrev pub rule_of : State → NamedRule → Option Rule
rule_of s named = numbered s.setup.schema named

-- the state once a rule is in force
abbrev pub ruled : State → Option Rule → State
ruled s None = record s { version = s.version + 1 }
ruled s (Some rule) = edited s (edit.Rule rule)

-- the rectangle of the points that it may change, if there are any
abbrev pub dirtied_by_rule : State → Option Rule → List Rectangle
dirtied_by_rule s None = []
dirtied_by_rule s (Some rule) = dirtied s.features (edit.Rule rule)

-- ---- all commands

-- the state after an accepted command, whose version is one more
abbrev pub next_state : State → Command → State
next_state s (command.Edit e) = edited s e
next_state s (command.Batch es) = batched s es
next_state s (command.Validate extent) = validated s extent
next_state s (command.Update tier subnet) = updated s tier subnet
next_state s (command.Rule named) = ruled s (rule_of s named)

-- the rectangles that it makes dirty, in order
abbrev pub dirtied_by : State → Command → List Rectangle
dirtied_by s (command.Edit e) = dirtied s.features e
dirtied_by s (command.Batch es) = dirtied_by_batch s es
dirtied_by s (command.Rule named) = dirtied_by_rule s (rule_of s named)
dirtied_by s _ = []

-- the extent that it validates, if it is a validation
abbrev pub extent_of : Command → Option Rectangle
extent_of (command.Validate extent) = Some extent
extent_of _ = None
