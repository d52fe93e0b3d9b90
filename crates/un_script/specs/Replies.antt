-- Each reply of a script is one line, and only that to a line that met want of memory tells of it.
use Rattle.std.proofs.Common.{◌≡◌, ◌≢◌, ℕ, List, Option, None, Some, Result, Ok, Err, refl}
use Rattle.un_lines.specs.Rules.{IsPlain}
use Rattle.un_ask.specs.declared.request.Request.{Request}
use Rattle.un_ask.specs.declared.request.Request.TheVariants as request
use Rattle.un_json.specs.declared.fault.ReadFault.{ReadFault}
use Rattle.un_json.specs.declared.fault.ReadFault.TheVariants.{NotJson, BadRequest, Memory}
use Rattle.un_json.specs.Requests.{ask, asked_by, or_fault, request_of, json_of}
use Rattle.serde_json.specs.Data.{Data}
use Rattle.un_schema_json.specs.Lines.{schema_of}
use Rattle.un_schema.specs.declared.place.Place.{Place}
use Rattle.un_schema.specs.declared.place.Place.TheVariants as place
use Rattle.un_ask.specs.Replies.{IsNoMemory}
use Rattle.un_replies.specs.Lines.{reply_line, reply_other}
use Rattle.un_core.specs.State.{State}
use Rattle.un_core.specs.Answers.{kept_basis}
use Rattle.un_core.specs.NoMemory.{command_is_no_memory, answer_is_no_memory}
use Rattle.un_script.specs.Opening.{bad_schema, bad_place, line_too_long}
use Rattle.un_script.specs.Script.{script, reply_to_line}

-- ---- lines

never_memory : (text : List ℕ) → ask text ≢ Err Memory
never_memory text e = go (json_of text) e
  where
    at : (r : Result Request Place) → or_fault r ≡ Err Memory → ⊥
    at (Err p) e = cc
    at (Ok r) e = cc

    go : (o : Option Data) → asked_by o ≡ Err Memory → ⊥
    go None e = cc
    go (Some d) e = at (request_of d) e

line_is_no_memory : (s : State) (text : List ℕ) → IsNoMemory (reply_to_line s (ask text))
line_is_no_memory s text = go (ask text) (never_memory text)
  where
    go : (r : Result Request ReadFault) → r ≢ Err Memory → IsNoMemory (reply_to_line s r)
    go (Err NotJson) other = λ e. cc
    go (Err (BadRequest place)) other = λ e. cc
    go (Err Memory) other = absurd (other refl)
    go (Ok (request.Command c)) other = command_is_no_memory s c
    go (Ok (request.Query q)) other = answer_is_no_memory s (kept_basis s) q
    go (Ok (request.Past q)) other = λ e. cc
    go (Ok (request.Changes q)) other = λ e. cc

pub script_is_plain : IsPlain script
script_is_plain = record {
  refusals = λ line. reply_line (bad_schema (bad_place (schema_of line)));
  refusal = reply_line (bad_schema place.Line);
  replies = λ s line. reply_line (reply_to_line s (ask line));
  too_long = reply_line line_too_long;
  other = λ s line. reply_other (reply_to_line s (ask line)) (line_is_no_memory s line);
}
