-- What is due for the lines of a script.
use Rattle.std.specs.Prelude.{List, Option, None, Some, Result, Ok, Err}
use Rattle.un_lines.specs.Rules.{Rules}
use Rattle.un_schema.specs.declared.place.Place.{Place}
use Rattle.un_schema.specs.declared.place.Place.TheVariants as place
use Rattle.un_schema.specs.Catalog.{Catalog}
use Rattle.un_tiers.specs.declared.tier.Tier.{Tier}
use Rattle.un_schema_json.specs.Lines.{schema_of}
use Rattle.un_ask.specs.declared.request.Request.{Request as Asked}
use Rattle.un_ask.specs.declared.reply.Reply.{Reply}
use Rattle.un_json.specs.declared.fault.ReadFault.{ReadFault}
use Rattle.un_json.specs.Requests.{ask, fault_reply}
use Rattle.un_replies.specs.Replies.{print}
use Rattle.un_script.specs.Opening.{setup_of, bad_place, bad_schema, line_too_long}
use Rattle.un_core.specs.State.{State, opening}
use Rattle.un_core.specs.Requests.{reply_to, state_behind}

-- ---- the first line

-- the state that it opens
abbrev pub opened_by : Result (Catalog × List Tier) Place → Option State
opened_by (Err place) = None
opened_by (Ok schema) = Some (opening (setup_of schema))

-- ---- later lines

-- the reply to what a line asks
abbrev pub reply_to_line : State → Result Asked ReadFault → Reply
reply_to_line s (Err fault) = fault_reply fault
reply_to_line s (Ok request) = reply_to s request

-- the state behind it
abbrev pub state_behind_line : State → Result Asked ReadFault → State
state_behind_line s (Err fault) = s
state_behind_line s (Ok request) = state_behind s request

-- ---- all lines

-- The first line that isn't blank is the schema, and has no reply. Where it is none, it is refused, and no later line has a
-- reply. Each later line that isn't blank has one, at the state that the lines before it left.
abbrev pub script : Rules State
script = record {
  opened = λ line. opened_by (schema_of line);
  refusal = λ line. print (bad_schema (bad_place (schema_of line)));
  refusal_too_long = print (bad_schema place.Line);
  refusal_missing = print (bad_schema place.Whole);
  reply = λ s line. print (reply_to_line s (ask line));
  next = λ s line. state_behind_line s (ask line);
  too_long = print line_too_long;
}
