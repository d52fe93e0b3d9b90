-- What is due for the lines of a script, by the schema's line and the accepted commands alone.
use Rattle.std.specs.Prelude.{◌≡◌, ℕ, Bool, List, [], Option, None, Some, Result, Ok, Err}
use Rattle.un_lines.specs.Rules.{Rules, Opening, Going, mode_behind}
use Rattle.un_lines.specs.Cut.{lines_of}
use Rattle.un_lines.specs.Due.{due, first_of}
use Rattle.un_schema.specs.declared.place.Place.{Place}
use Rattle.un_schema.specs.Catalog.{Catalog}
use Rattle.un_tiers.specs.declared.tier.Tier.{Tier}
use Rattle.un_schema_json.specs.Lines.{schema_of}
use Rattle.un_ask.specs.declared.request.Command.{Command}
use Rattle.un_ask.specs.declared.request.Request.{Request as Asked}
use Rattle.un_ask.specs.declared.reply.Reply.{Reply}
use Rattle.un_json.specs.declared.fault.ReadFault.{ReadFault}
use Rattle.un_json.specs.Requests.{ask, fault_reply}
use Rattle.un_replies.specs.Replies.{print}
use Rattle.un_tiers.specs.declared.setup.Setup.{Setup}
use Rattle.un_core.specs.State.{State}
use Rattle.un_core.specs.Requests.{reply_after, history_behind, IsFaithful}
use Rattle.un_script.specs.Opening.{setup_of}
use Rattle.un_script.specs.Script.{script}

-- what a script has come to: its schema and tiers, and its accepted commands, the last one first
pub record History : Type 0 where
  pub setup : Setup
  pub commands : List Command

-- before the first command
abbrev pub opened_by : Result (Catalog × List Tier) Place → Option History
opened_by (Err place) = None
opened_by (Ok schema) = Some (record { setup = setup_of schema; commands = [] })

-- The reply to what a line asks. The version is the number of accepted commands; the dirty areas are those that no later validation
-- cleared; a validation tells of the errors that the stars of all features have under the areas that it clears; a consistent trace goes
-- over the stars of all features, and any other over those that stood at each point at its last validation.
abbrev pub reply_after_line : History → Result Asked ReadFault → Reply
reply_after_line h (Err fault) = fault_reply fault
reply_after_line h (Ok request) = reply_after h.setup h.commands request

-- the history behind it
abbrev pub history_behind_line : History → Result Asked ReadFault → History
history_behind_line h (Err fault) = h
history_behind_line h (Ok request) = record h { commands = history_behind h.setup h.commands request }

-- what is due as `script` has it, by the history in place of the state
abbrev pub by_history : Rules History
by_history = record {
  opened = λ line. opened_by (schema_of line);
  refusal = script.refusal;
  refusal_too_long = script.refusal_too_long;
  refusal_missing = script.refusal_missing;
  reply = λ h line. print (reply_after_line h (ask line));
  next = λ h line. history_behind_line h (ask line);
  too_long = script.too_long;
}

-- ---- what is to be shown

-- the state behind any lines, each of which met want of memory or didn't, is the one after their accepted commands, and faithful to them
abbrev pub StateLaw : Type 0
StateLaw = (entries : List (List ℕ × Bool)) (s : State) → mode_behind script Opening entries ≡ Going s →
    (h : History) × (mode_behind by_history Opening entries ≡ Going h) × IsFaithful h.setup h.commands s

-- what is due by the states is what is due by the accepted commands alone
abbrev pub DueLaw : Type 0
DueLaw = (read : List ℕ) (ended : Bool) (out : List ℕ) → due script read ended out ≡ due by_history read ended out

-- and so is what the first line comes to
abbrev pub FirstLaw : Type 0
FirstLaw = (read : List ℕ) (ended : Bool) → first_of script (lines_of ended read) ≡ first_of by_history (lines_of ended read)

-- over every list of lines, and every cut of the input
pub record Headline : Type 0 where
  pub state : StateLaw
  pub same_due : DueLaw
  pub same_first : FirstLaw
