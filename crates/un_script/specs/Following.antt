-- What is due for the lines of a follower.
use Rattle.std.specs.Prelude.{ℕ, List, [], ◌∷◌, ◌++◌, length, Option, None, Some, Result, Ok, Err, if◌then◌else◌}
use Rattle.un_points.specs.PointMaps.{value_at}
use Rattle.un_lines.specs.Rules.{Rules}
use Rattle.un_schema.specs.declared.place.Place.{Place}
use Rattle.un_schema.specs.declared.place.Place.TheVariants as place
use Rattle.un_schema.specs.Catalog.{Catalog}
use Rattle.un_tiers.specs.declared.tier.Tier.{Tier}
use Rattle.un_schema_json.specs.Lines.{schema_of}
use Rattle.un_defs.specs.declared.refusal.Refusal.TheVariants as refusal
use Rattle.un_ask.specs.declared.reply.Reply.{Reply}
use Rattle.un_ask.specs.declared.reply.Reply.TheVariants.{Refused}
use Rattle.un_json.specs.declared.fault.ReadFault.{ReadFault}
use Rattle.un_json.specs.Requests.{fault_reply}
use Rattle.un_replies.specs.Replies.{print}
use Rattle.un_feed.specs.Differences.{ChangesShown}
use Rattle.un_feed.specs.Follows.{Copied, nothing_copied, fits, taken, after_page, place_of}
use Rattle.un_feed_json.specs.Lines.{Line, page_line, star_line, line_answer}
use Rattle.un_feed_json.specs.Shown.{followed_text, star_text}
use Rattle.un_script.specs.Opening.{bad_place, bad_schema, line_too_long}
use Rattle.un_script.specs.declared.follow.copy.Following.{Following}

-- ---- the first line

-- a schema's line opens a copy of the empty topology at version 0
abbrev pub opened_by : Result (Catalog × List Tier) Place → Option Following
opened_by (Err place) = None
opened_by (Ok schema) = Some (record { schema = schema.0; tiers = schema.1; copy = nothing_copied })

-- ---- later lines

-- what a line says, by the names of the schema and the tiers
abbrev pub said : Following → List ℕ → Result Line ReadFault
said f line = line_answer f.schema f.tiers line

-- the reply to a page that was taken: at how many points the copy then has a star, and its version
abbrev pub followed : Copied → List ℕ
followed copy = followed_text (length copy.kept) copy.version

-- the refusal of a page that doesn't fit: after which point the next page has to begin, and from which version
abbrev pub wrong_page : Copied → Reply
wrong_page copy = Refused (refusal.WrongPage (place_of copy) copy.version) None 0

abbrev pub reply_to_page : Copied → ChangesShown → List ℕ
reply_to_page copy page = if fits copy page then followed (taken copy page) else print (wrong_page copy)

-- the reply to what a line says
abbrev pub reply_to_line : Following → Result Line ReadFault → List ℕ
reply_to_line f (Err fault) = print (fault_reply fault)
reply_to_line f (Ok (page_line page)) = reply_to_page f.copy page
reply_to_line f (Ok (star_line p)) = star_text f.schema f.tiers p (value_at p f.copy.kept) f.copy.version

-- the bytes of the reply to a line: its text and the line's end
abbrev pub line_reply : Following → List ℕ → List ℕ
line_reply f line = reply_to_line f (said f line) ++ 10 ∷ []

-- the copy behind it: a page that fits is taken, and nothing else changes the copy
abbrev pub state_behind_line : Following → Result Line ReadFault → Following
state_behind_line f (Err fault) = f
state_behind_line f (Ok (page_line page)) = record f { copy = after_page f.copy page }
state_behind_line f (Ok (star_line p)) = f

-- ---- all lines

-- The first line that isn't blank is the schema, and has no reply. Where it is none, it is refused, and no later line has a
-- reply. Each later line that isn't blank has one, by the copy that the lines before it left.
abbrev pub follow : Rules Following
follow = record {
  opened = λ line. opened_by (schema_of line);
  refusal = λ line. print (bad_schema (bad_place (schema_of line)));
  refusal_too_long = print (bad_schema place.Line);
  refusal_missing = print (bad_schema place.Whole);
  reply = λ f line. reply_to_line f (said f line);
  next = λ f line. state_behind_line f (said f line);
  too_long = print line_too_long;
}
