-- What a command does to a state, and what is replied to it.
pub use Rattle.un_core.specs.Refusals.{refused}
use Rattle.std.specs.Prelude.{◌≡◌, ◌⊎◌, ℕ, ◌+◌, ◌==◌, Bool, true, not, List, [], ◌∷◌, length, Option, Some, None, if◌then◌else◌}
use Rattle.std.specs.List.{list_all}
use Rattle.std.specs.Option.{option_map_or}
use Rattle.std.proofs.Common.{inl, inr}
use Rattle.un_geom.specs.Rectangle.{Rectangle}
use Rattle.un_schema.specs.declared.place.Place.TheVariants as place
use Rattle.un_defs.specs.declared.edit.Edit.{Edit}
use Rattle.un_defs.specs.declared.edit.Edit.TheVariants as edit
use Rattle.un_defs.specs.declared.refusal.Refusal.{Refusal}
use Rattle.un_defs.specs.declared.refusal.Refusal.TheVariants as refusal
use Rattle.un_defs.specs.Dirtied.{dirtied}
use Rattle.un_defs.specs.Refusing.{first_refusal, refused_if}
use Rattle.un_facts.specs.Refusals.{is_of_features}
use Rattle.un_ask.specs.declared.word.EditWord.{EditWord}
use Rattle.un_ask.specs.declared.word.EditWord.TheVariants as word
use Rattle.un_ask.specs.declared.request.Command.{Command}
use Rattle.un_ask.specs.declared.request.Command.TheVariants as command
use Rattle.un_ask.specs.declared.reply.Reply.{Reply}
use Rattle.un_ask.specs.declared.reply.Reply.TheVariants as reply
use Rattle.un_ask.specs.Replies.{IsOfCommand, HasFewIds, HasFewEdits}
use Rattle.un_core.specs.State.{State}
use Rattle.un_core.specs.Step.{id_of, ids_of_all, dirtied_by_batch, rule_of, dirtied_by_rule, next_state, dirtied_by}
use Rattle.un_core.specs.Validation.{met, errors_under}
use Rattle.un_core.specs.Updating.{updated_reply}
use Rattle.un_core.specs.Refusals.{edit_refusal, batch_refusal, rule_refusal, update_refusal, refused_place, numbers_refusal}

-- ---- which commands are taken

-- the commands that are taken: all but one edit or a batch that adds a rule, which has a command of its own
abbrev pub is_known : Command → Bool
is_known (command.Edit e) = is_of_features e
is_known (command.Batch es) = list_all is_of_features es
is_known (command.Validate extent) = true
is_known (command.Update tier subnet) = true
is_known (command.Rule named) = true

-- any other is refused as one whose word is not known
abbrev pub unknown : Command → Option Refusal
unknown c = refused_if (not (is_known c)) (refusal.BadRequest place.Do)

-- the first refusal of a command that is known
abbrev pub known_refusal : State → Command → Option Refusal
known_refusal s (command.Edit e) = edit_refusal s e
known_refusal s (command.Batch es) = batch_refusal s es
known_refusal s (command.Update tier subnet) = update_refusal s tier subnet
known_refusal s (command.Rule named) = rule_refusal s named
known_refusal s _ = numbers_refusal s

-- the first refusal of a command
abbrev pub command_refusal : State → Command → Option Refusal
command_refusal s c = first_refusal (unknown c ∷ known_refusal s c ∷ [])

-- ---- replies

-- the number of the first area and how many there are, both 0 where there is none
abbrev pub first_and_count : ℕ → ℕ → List ℕ
first_and_count first count = if count == 0 then 0 ∷ 0 ∷ [] else first ∷ count ∷ []

-- the word of an edit; a rule has none
abbrev pub word_of : Edit → Option EditWord
word_of (edit.Insert kind points attrs flow ends note) = Some word.Insert
word_of (edit.Reshape id base points) = Some word.Reshape
word_of (edit.Attrs id base attrs) = Some word.Attrs
word_of (edit.Kind id base kind) = Some word.Kind
word_of (edit.Path id base path) = Some word.Path
word_of (edit.Flow id base flow) = Some word.Flow
word_of (edit.Ends id base ends) = Some word.Ends
word_of (edit.Note id base note) = Some word.Note
word_of (edit.Delete id base) = Some word.Delete
word_of (edit.Connect from to) = Some word.Connect
word_of (edit.Contain container content) = Some word.Contain
word_of (edit.Attach structure content) = Some word.Attach
word_of (edit.Detach assoc) = Some word.Detach
word_of (edit.Controller id terminal tier subnet) = Some word.Controller
word_of (edit.Uncontroller id terminal) = Some word.Uncontroller
word_of (edit.Rule rule) = None

-- the areas that an edit makes
abbrev pub areas_of_edit : State → Edit → List ℕ
areas_of_edit s e = first_and_count s.next_area (length (dirtied s.features e))

-- the reply to an edit that is accepted
abbrev pub edit_reply : State → Edit → Reply
edit_reply s e = option_map_or (λ w. reply.Edited (areas_of_edit s e) (id_of s e) w (s.version + 1)) (word_of e)
    (reply.Ruled (areas_of_edit s e) (length s.features.rules + 1) (s.version + 1))

-- the reply to a command that is accepted
abbrev pub accepted : State → Command → Reply
accepted s (command.Edit e) = edit_reply s e
accepted s (command.Batch es) =
    reply.Batch (first_and_count s.next_area (length (dirtied_by_batch s es))) (ids_of_all s es) (s.version + 1)
accepted s (command.Validate extent) =
    reply.Validated (length (met extent s.areas)) (errors_under s (met extent s.areas)) (s.version + 1)
accepted s (command.Rule named) =
    reply.Ruled (first_and_count s.next_area (length (dirtied_by_rule s (rule_of s named)))) (length s.features.rules + 1) (s.version + 1)
accepted s (command.Update tier subnet) = updated_reply s tier subnet

-- the place of the edit of a batch that is refused; none where the batch is refused as a whole
abbrev pub refused_edit : State → Command → Option ℕ
refused_edit s (command.Batch es) = option_map_or (λ r. None) (unknown (command.Batch es)) (refused_place s es)
refused_edit s _ = None

-- the reply to a command that is refused
abbrev pub refusal_reply : State → Command → Refusal → Reply
refusal_reply s c r = reply.Refused r (refused_edit s c) s.version

-- ---- the step

-- what a step gives: the next state, the reply and the rectangles that it made dirty, or the reply of a refusal
abbrev pub Stepped : Type 0
Stepped = (State × (Reply × List Rectangle)) ⊎ Reply

abbrev pub step : State → Command → Stepped
step s c =
    option_map_or (λ r. inr (refusal_reply s c r)) (command_refusal s c) (inl (next_state s c, (accepted s c, dirtied_by s c)))

-- the reply to a command
abbrev pub command_reply : State → Command → Reply
command_reply s c = option_map_or (refusal_reply s c) (command_refusal s c) (accepted s c)

-- the state after it
abbrev pub state_after : State → Command → State
state_after s c = option_map_or (λ r. s) (command_refusal s c) (next_state s c)

-- the command, where it is accepted
abbrev pub accepted_of : State → Command → List Command
accepted_of s c = option_map_or (λ r. []) (command_refusal s c) (c ∷ [])

-- ---- what is to be shown

-- What a step gives is the reply and the state after it. The reply is one of a command, and has few ids where the command has few edits.
pub record RepliesTo (s : State) (c : Command) : Type 0 where
  pub done : (t : State) (r : Reply) (mark : List Rectangle) → step s c ≡ inl (t, (r, mark)) → (t ≡ state_after s c) × (r ≡ command_reply s c)
  pub refused : (r : Reply) → step s c ≡ inr r → (s ≡ state_after s c) × (r ≡ command_reply s c)
  pub of_command : IsOfCommand (command_reply s c)
  pub few : HasFewEdits c → HasFewIds (command_reply s c)

abbrev pub StepLaw : Type 0
StepLaw = (s : State) (c : Command) → RepliesTo s c
