-- The state after the accepted commands.
use Rattle.std.proofs.Common.{◌≡◌, ℕ, ◌+◌, Bool, true, false, true≢false, List, [], ◌∷◌, ◌++◌, Option, None, Some, refl, sym, ap, subst, ◌∙◌, arith}
use Rattle.std.specs.Prelude.{⊤, not}
use Rattle.std.specs.List.{list_all}
use Rattle.std.specs.Option.{option_map, option_map_or}
use Rattle.un_schema.specs.declared.place.Place.TheVariants as place
use Rattle.un_schema.specs.Sound.{IsCatalog}
use Rattle.un_schema.specs.declared.rule.Rule.{Rule}
use Rattle.un_defs.specs.declared.edit.Edit.{Edit}
use Rattle.un_defs.specs.declared.refusal.Refusal.{Refusal}
use Rattle.un_defs.specs.declared.refusal.Refusal.TheVariants as refusal
use Rattle.un_defs.specs.Laws.{MayBeMade}
use Rattle.un_defs.proofs.LinkCases.{both_true}
use Rattle.un_ask.specs.declared.request.Command.{Command}
use Rattle.un_ask.specs.declared.request.Command.TheVariants as command
use Rattle.un_defs.specs.Refusing.{first_refusal}
use Rattle.un_store.proofs.Fitting.{none_refused}
use Rattle.un_facts.specs.Refusals.{is_of_features, refusal_of}
use Rattle.un_facts.proofs.Alone.{unmapped, fails}
use Rattle.un_facts.proofs.Makeable.{made}
use Rattle.un_tiers.specs.declared.setup.Setup.{Setup}
use Rattle.un_core.specs.State.{State, known, next_ids}
use Rattle.un_core.specs.History.{after_all}
use Rattle.un_core.specs.Step.{setting, next_with, made_at, made_by_all, rule_of, ruled, next_state}
use Rattle.un_core.specs.Cover.{IsState, MayAllBeMade, MayHappen, MayAllHappen}
use Rattle.un_core.specs.Refusals.{numbers_refusal, beside_numbers, first_refused}
use Rattle.un_core.specs.Commands.{is_known, unknown, known_refusal, command_refusal}
use Rattle.un_core.specs.Accepted.{IsAfter, MayLaw, SetupLaw, OpeningLaw, AfterLaw, VersionLaw}
use Rattle.un_core.proofs.CoverKept.{made_state, cover_is_kept}
use Rattle.un_core.proofs.Opening.{opening_state}
use Rattle.un_core.proofs.HistoryKept.{kept_is_history}
use Rattle.un_core.proofs.Applying.{ruled_version}

-- ---- the edits of a batch

-- each of the edits is one of the features
abbrev AreOfFeatures : List Edit → Type 0
AreOfFeatures [] = ⊤
AreOfFeatures (e ∷ es) = (is_of_features e ≡ true) × AreOfFeatures es

all_of_features : (es : List Edit) → list_all is_of_features es ≡ true → AreOfFeatures es
all_of_features [] all = tt
all_of_features (e ∷ es) all =
    let both = both_true (is_of_features e) (list_all is_of_features es) all in
    (both.0, all_of_features es both.1)

-- ---- the schema and the tiers stay

made_all_setup : (s : State) (es : List Edit) → (made_by_all s es).setup ≡ s.setup
made_all_setup s [] = refl
made_all_setup s (e ∷ es) = made_all_setup (made_at 0 s e) es

ruled_setup : (s : State) (o : Option Rule) → (ruled s o).setup ≡ s.setup
ruled_setup s None = refl
ruled_setup s (Some rule) = refl

pub same_setup : SetupLaw
same_setup s (command.Batch es) = made_all_setup s es
same_setup s (command.Rule named) = ruled_setup s (rule_of s named)
same_setup s _ = refl

-- ---- what is accepted might happen

pub edit_may_be_made : (s : State) → IsState s → IsCatalog s.setup.schema → (moment : ℕ) → (e : Edit) → is_of_features e ≡ true
    → first_refusal (beside_numbers s e) ≡ None → MayBeMade (setting s) (next_with s moment) s.features e
edit_may_be_made s is schema moment e word cause =
    made (known s) (next_ids s) moment schema is.sound e word (none_refused (refusal_of (known s) e) _ cause).0

none_some : {A : Type 0} {x : A} → None ≡ Some x → ⊥
none_some h = cc

-- where no edit of a batch is refused, nothing is due of the first, and none of the rest is refused once that is made
none_in_batch : (s : State) (place : ℕ) (e : Edit) (es : List Edit) → first_refused s place (e ∷ es) ≡ None
    → (first_refusal (beside_numbers s e) ≡ None) × (first_refused (made_at 0 s e) (place + 1) es ≡ None)
none_in_batch s place e es none = go (first_refusal (beside_numbers s e)) none
  where
    go : (d : Option Refusal) → option_map_or (λ r. Some (place, r)) d (first_refused (made_at 0 s e) (place + 1) es) ≡ None
        → (d ≡ None) × (first_refused (made_at 0 s e) (place + 1) es ≡ None)
    go None none = (refl, none)
    go (Some r) none = absurd (none_some (sym none))

pub batch_may_be_made : (s : State) (place : ℕ) (es : List Edit) → IsState s → IsCatalog s.setup.schema → AreOfFeatures es → first_refused s place es ≡ None → MayAllBeMade s es
batch_may_be_made s place [] is schema words none = tt
batch_may_be_made s place (e ∷ es) is schema words none =
    let both = none_in_batch s place e es none in
    let may = edit_may_be_made s is schema 0 e words.0 both.0 in
    (may, batch_may_be_made (made_at 0 s e) (place + 1) es (made_state s is 0 e may) schema words.1 both.1)

known_so : (b : Bool) → not b ≡ false → b ≡ true
known_so true e = refl
known_so false e = absurd (true≢false e)

-- a command that is known and of which nothing is due
known_may_happen : (s : State) (c : Command) → IsState s → IsCatalog s.setup.schema → is_known c ≡ true → known_refusal s c ≡ None → MayHappen s c
known_may_happen s (command.Edit e) is schema known cause = edit_may_be_made s is schema (s.version + 1) e known (none_refused (numbers_refusal s) _ cause).1
known_may_happen s (command.Batch es) is schema known cause =
    let behind_numbers = none_refused (numbers_refusal s) _ cause in
    let refused = none_refused (option_map (λ p. p.1) (first_refused s 0 es)) [] behind_numbers.1 in
    batch_may_be_made s 0 es is schema (all_of_features es known) (unmapped (λ p. p.1) (first_refused s 0 es) refused.0)
known_may_happen s (command.Validate extent) is schema known cause = tt
known_may_happen s (command.Update tier subnet) is schema known cause = tt
known_may_happen s (command.Rule named) is schema known cause = tt

pub may_happen : MayLaw
may_happen s c is schema none =
    let both = none_refused (unknown c) (known_refusal s c ∷ []) none in
    known_may_happen s c is schema (known_so (is_known c) (fails (not (is_known c)) (refusal.BadRequest place.Do) both.0)) (none_refused (known_refusal s c) [] both.1).0

-- ---- histories

pub opening_is_after : OpeningLaw
opening_is_after S is = record { schema = is; setup = refl; may = tt; is = refl; of_history = kept_is_history S [] tt; state = opening_state S }

-- a history with one command more
pub one_more : (S : Setup) (history : List Command) (s : State) (c : Command) → IsAfter S history s → command_refusal s c ≡ None → IsAfter S (c ∷ history) (next_state s c)
one_more S history s c after none =
    let may = may_happen s c after.state (subst (λ (t : Setup). IsCatalog t.schema) (sym after.setup) after.schema) none in
    let all : MayAllHappen S (c ∷ history) = (subst (λ t. MayHappen t c) after.is may, after.may) in
    record {
      schema = after.schema;
      setup = same_setup s c ∙ after.setup;
      may = all;
      is = ap (λ t. next_state t c) after.is;
      of_history = kept_is_history S (c ∷ history) all;
      state = cover_is_kept s c after.state may;
    }

pub after_command : AfterLaw
after_command S history s c after = go (command_refusal s c) refl
  where
    go : (d : Option Refusal) → command_refusal s c ≡ d → IsAfter S (option_map_or (λ r. []) d (c ∷ []) ++ history) (option_map_or (λ r. s) d (next_state s c))
    go None none = one_more S history s c after none
    go (Some r) cause = after

pub versions_count : VersionLaw
versions_count S [] = refl
versions_count S (command.Edit e ∷ before) = let v = versions_count S before in omega (arith, v)
versions_count S (command.Batch es ∷ before) = let v = versions_count S before in omega (arith, v)
versions_count S (command.Validate extent ∷ before) = let v = versions_count S before in omega (arith, v)
versions_count S (command.Rule named ∷ before) =
    let v = versions_count S before in
    let r = ruled_version (after_all S before) (rule_of (after_all S before) named) in
    omega (arith, v, r)
versions_count S (command.Update tier subnet ∷ before) = let v = versions_count S before in omega (arith, v)
