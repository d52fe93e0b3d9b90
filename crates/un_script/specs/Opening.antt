-- What the first line of a run comes to: it is a schema, or is refused.
use Rattle.std.specs.Prelude.{◌≡◌, ◌≢◌, ℕ, Bool, false, List, [], ◌∷◌, ◌++◌, Option, None, is_some, Result, Ok, Err, is_ok}
use Rattle.un_lines.specs.Cut.{lines_of}
use Rattle.un_lines.specs.Rules.{Rules, kind_of}
use Rattle.un_lines.specs.Due.{First, Refuses, due, first_of, IsRefused}
use Rattle.un_lines.specs.declared.line.Kind.{Kind}
use Rattle.un_lines.specs.declared.line.Kind.TheVariants.{TooLong, Blank, Request}
use Rattle.un_schema.specs.declared.place.Place.{Place}
use Rattle.un_schema.specs.declared.place.Place.TheVariants as place
use Rattle.un_schema.specs.Catalog.{Catalog}
use Rattle.un_tiers.specs.declared.tier.Tier.{Tier}
use Rattle.un_tiers.specs.declared.setup.Setup.{Setup}
use Rattle.un_schema_json.specs.Lines.{schema_of}
use Rattle.un_defs.specs.declared.refusal.Refusal.TheVariants as refusal
use Rattle.un_ask.specs.declared.reply.Reply.{Reply}
use Rattle.un_ask.specs.declared.reply.Reply.TheVariants.{Refused}
use Rattle.un_replies.specs.Replies.{print}

-- ---- the first line

-- what a schema's line sets up
abbrev pub setup_of : Catalog × List Tier → Setup
setup_of schema = record { schema = schema.0; tiers = schema.1 }

-- the first place that is bad
abbrev pub bad_place : Result (Catalog × List Tier) Place → Place
bad_place (Err place) = place
bad_place (Ok schema) = place.Whole

-- the refusal of a first line that is no schema
abbrev pub bad_schema : Place → Reply
bad_schema place = Refused (refusal.BadSchema place) None 0

-- the refusal of a later line that is too long
abbrev pub line_too_long : Reply
line_too_long = Refused refusal.LineTooLong None 0

-- A first line that is a schema opens a state, and every other one is refused with the first place that is bad, `line` where it is too
-- long, and the empty one where it is missing.
pub record OpensBySchema {S : Type 0} (rules : Rules S) : Type 0 where
  pub opens : (line : List ℕ) → is_some (rules.opened line) ≡ is_ok (schema_of line)
  pub refuses : (line : List ℕ) → rules.refusal line ≡ print (bad_schema (bad_place (schema_of line)))
  pub refuses_too_long : rules.refusal_too_long ≡ print (bad_schema place.Line)
  pub refuses_missing : rules.refusal_missing ≡ print (bad_schema place.Whole)

-- ---- what is written

-- all that is due is written, and the first line came to this
pub record IsServedBy {S : Type 0} (rules : Rules S) (read : List ℕ) (ended : Bool) (first : First) (out : List ℕ) : Type 0 where
  pub is_due : out ≡ due rules read ended out
  pub first_is : first_of rules (lines_of ended read) ≡ first

-- all that is due for the whole lines is written, and no first line was refused
pub record IsUnrefusedBy {S : Type 0} (rules : Rules S) (read out : List ℕ) : Type 0 where
  pub is_due : out ≡ due rules read false out
  pub first_is : first_of rules (lines_of false read) ≢ Refuses

-- the place of the refusal of the first line that isn't blank; the empty one where there is none
abbrev pub place_of : Kind → List ℕ → Place → Place
place_of TooLong line later = place.Line
place_of Blank line later = later
place_of Request line later = bad_place (schema_of line)

abbrev pub refused_place : List (List ℕ) → Place
refused_place [] = place.Whole
refused_place (line ∷ lines) = place_of (kind_of line) line (refused_place lines)

-- the refusal of a first line, and its line's end
abbrev pub refusal_line : Place → List ℕ
refusal_line place = print (bad_schema place) ++ 10 ∷ []

-- the refusal of the first line alone is written, or that of a missing one
pub record IsRefusedAs {S : Type 0} (rules : Rules S) (read : List ℕ) (left : Option (List ℕ)) (out : List ℕ) : Type 0 where
  pub refused : IsRefused rules read left out
  pub alone : out ≡ refusal_line (refused_place (lines_of refused.ended read))
