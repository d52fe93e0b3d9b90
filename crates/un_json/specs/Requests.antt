-- What a text asks.
use Rattle.std.specs.Prelude.{ℕ, List, Option, None, Some, is_some, Result, Ok, Err, if◌then◌else◌}
use Rattle.std.specs.Str.{is_utf8}
use Rattle.serde_json.specs.Data.{Data}
use Rattle.serde_json.specs.Find.{as_object}
use Rattle.serde_json.specs.Read.{read}
use Rattle.un_schema.specs.declared.place.Place.{Place}
use Rattle.un_schema.specs.declared.place.Place.TheVariants as place
use Rattle.un_ask.specs.declared.request.Request.{Request}
use Rattle.un_ask.specs.declared.request.Request.TheVariants as request
use Rattle.un_ask.specs.declared.reply.Reply.{Reply}
use Rattle.un_ask.specs.declared.reply.Reply.TheVariants.{Refused}
use Rattle.un_defs.specs.declared.refusal.Refusal.TheVariants as refusal
use Rattle.un_json.specs.declared.words.Word.{Word}
use Rattle.un_json.specs.declared.words.Word.TheVariants.{Do, Ask, Past, Changes}
use Rattle.un_json.specs.declared.fault.ReadFault.{ReadFault}
use Rattle.un_json.specs.declared.fault.ReadFault.TheVariants.{NotJson, BadRequest, Memory}
use Rattle.un_json.specs.Rows.{mapped, and_then}
use Rattle.un_json.specs.Words.{word_of}
use Rattle.un_json.specs.Table.{command_answer, query_answer, past_answer, changes_answer}

abbrev pub answer_to : Word → Data → Result Request Place
answer_to (Do w) d = mapped request.Command (command_answer w d)
answer_to (Ask w) d = mapped request.Query (query_answer w d)
answer_to Past d = mapped request.Past (past_answer d)
answer_to Changes d = mapped request.Changes (changes_answer d)

-- the request that a value is, or the first place that is bad
abbrev pub request_of : Data → Result Request Place
request_of d = if is_some (as_object d) then and_then (λ w. answer_to w d) (word_of d) else Err place.Whole

-- the JSON value that the bytes are, if they are UTF-8 and one value
abbrev pub json_of : List ℕ → Option Data
json_of bytes = if is_utf8 bytes then read bytes else None

abbrev pub or_fault : Result Request Place → Result Request ReadFault
or_fault (Err p) = Err (BadRequest p)
or_fault (Ok r) = Ok r

abbrev pub asked_by : Option Data → Result Request ReadFault
asked_by None = Err NotJson
asked_by (Some d) = or_fault (request_of d)

-- what a text asks
abbrev pub ask : List ℕ → Result Request ReadFault
ask text = asked_by (json_of text)

-- the reply to a text that is no request
abbrev pub fault_reply : ReadFault → Reply
fault_reply NotJson = Refused refusal.NotJson None 0
fault_reply (BadRequest place) = Refused (refusal.BadRequest place) None 0
fault_reply Memory = Refused refusal.Memory None 0
