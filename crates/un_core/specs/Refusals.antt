-- What is looked at before a command is done, in order, and the refusal that is due.
use Rattle.std.specs.Prelude.{◌≡◌, ◌≢◌, ℕ, ◌+◌, nat_lt, nat_le, ◌||◌, List, [], ◌∷◌, length, Option, Some, None}
use Rattle.std.specs.Option.{option_map, option_map_or}
use Rattle.un_geom.specs.Rectangle.{Rectangle}
use Rattle.un_defs.specs.declared.edit.Edit.{Edit}
use Rattle.un_defs.specs.declared.edit.Edit.TheVariants as edit
use Rattle.un_defs.specs.declared.refusal.Refusal.{Refusal}
use Rattle.un_defs.specs.declared.refusal.Refusal.TheVariants as refusal
use Rattle.un_defs.specs.declared.refusal.Limit.TheVariants as limit
use Rattle.un_defs.specs.Dirtied.{dirtied}
use Rattle.un_ask.specs.declared.reply.Reply.{Reply}
use Rattle.un_ask.specs.declared.reply.Reply.TheVariants.{Refused}
use Rattle.un_defs.specs.Refusing.{first_refusal, refused_if}
use Rattle.un_facts.specs.Refusals.{refusal_of}
use Rattle.un_facts.specs.Ruling.{rule_refusal as adding_refusal}
use Rattle.un_facts.specs.Known.{in_force}
use Rattle.un_resolve.specs.Rules.{naming_refusal}
use Rattle.un_schema.specs.declared.rule.Rule.{Rule}
use Rattle.un_ask.specs.declared.rule.NamedRule.{NamedRule}
use Rattle.un_core.specs.State.{State, known}
use Rattle.un_subnet.specs.Outcome.{outcome_refusal}
use Rattle.un_core.specs.Updating.{outcome}
use Rattle.un_core.specs.Step.{made_at, rule_of}

-- a version or a number from here on is none
abbrev pub last_number : ℕ
last_number = 9_000_000_000_000_000

-- the versions, the ids or the numbers of areas are used up
abbrev pub numbers_refusal : State → Option Refusal
numbers_refusal s = refused_if
    (nat_le last_number s.version || nat_le last_number s.next_feature || nat_le last_number s.next_association || nat_le last_number s.next_area)
    (refusal.Full limit.Numbers)

-- the most dirty areas
abbrev pub most_areas : ℕ
most_areas = 65536

-- with these rectangles there would be too many dirty areas; an edit that makes none is not refused for them
abbrev pub too_many : List (ℕ × Rectangle) → List Rectangle → Option Refusal
too_many areas [] = None
too_many areas (r ∷ rs) = refused_if (nat_lt most_areas (length areas + length (r ∷ rs))) (refusal.Full limit.Areas)

-- what may be due of an edit, in order, beside the numbers, which are looked at once for a command
abbrev pub beside_numbers : State → Edit → List (Option Refusal)
beside_numbers s e =
    refusal_of (known s) e
    ∷ too_many s.areas (dirtied s.features e)
    ∷ []

-- the first refusal of an edit
abbrev pub edit_refusal : State → Edit → Option Refusal
edit_refusal s e = first_refusal (numbers_refusal s ∷ beside_numbers s e)

-- the first refusal of the edits of a batch, each looked at where the ones before it were made, with the place of the edit
abbrev pub first_refused : State → ℕ → List Edit → Option (ℕ × Refusal)
first_refused s place [] = None
first_refused s place (e ∷ es) =
    option_map_or (λ r. Some (place, r)) (first_refusal (beside_numbers s e)) (first_refused (made_at 0 s e) (place + 1) es)

abbrev pub batch_refusal : State → List Edit → Option Refusal
batch_refusal s es = first_refusal (numbers_refusal s ∷ option_map (λ p. p.1) (first_refused s 0 es) ∷ [])

-- the place of the edit that is refused, which the numbers have not
abbrev pub refused_place : State → List Edit → Option ℕ
refused_place s es = option_map_or (λ r. None) (numbers_refusal s) (option_map (λ p. p.0) (first_refused s 0 es))

-- what may be due of a rule whose kinds are known: what the rules in force refuse, and too many areas
abbrev pub added_refusal : State → Option Rule → Option Refusal
added_refusal s None = None
added_refusal s (Some rule) =
    first_refusal (adding_refusal (in_force (known s)) rule ∷ too_many s.areas (dirtied s.features (edit.Rule rule)) ∷ [])

-- the first refusal of a rule
abbrev pub rule_refusal : State → NamedRule → Option Refusal
rule_refusal s named =
    first_refusal (numbers_refusal s ∷ naming_refusal s.setup.schema named ∷ added_refusal s (rule_of s named) ∷ [])

-- the first refusal of an update
abbrev pub update_refusal : State → List ℕ → List ℕ → Option Refusal
update_refusal s tier subnet = first_refusal (numbers_refusal s ∷ outcome_refusal (outcome s tier subnet) ∷ [])

-- the reply that tells of a refusal
abbrev pub refused : State → Refusal → Reply
refused s r = Refused r None s.version

-- the batch is refused by the refusal of an edit, at its place, or before the first edit, at none
abbrev pub IsBatchRefusal : State → List Edit → Refusal → Option ℕ → Type 0
IsBatchRefusal s es r place = r ≢ refusal.Memory → (batch_refusal s es ≡ Some r) × (refused_place s es ≡ place)
