-- What a step gives, by whether its command is known and what is due of it.
use Rattle.std.proofs.Common.{◌≡◌, ℕ, ◌+◌, ◌-◌, Bool, true, false, true≢false, List, [], ◌∷◌, length, Option, Some, None, inl, inr, refl, sym, ap, ◌∙◌, arith}
use Rattle.std.specs.Prelude.{not}
use Rattle.std.specs.Option.{option_map_or}
use Rattle.un_geom.specs.Rectangle.{Rectangle}
use Rattle.un_schema.specs.declared.place.Place.TheVariants as place
use Rattle.un_schema.specs.declared.rule.Rule.{Rule}
use Rattle.un_ask.specs.declared.rule.NamedRule.{NamedRule}
use Rattle.un_defs.specs.declared.edit.Edit.{Edit}
use Rattle.un_defs.specs.declared.edit.Edit.TheVariants as edit
use Rattle.un_defs.specs.declared.refusal.Refusal.{Refusal}
use Rattle.un_defs.specs.declared.refusal.Refusal.TheVariants as refusal
use Rattle.un_defs.specs.Dirtied.{dirtied}
use Rattle.un_defs.specs.Refusing.{first_refusal, refused_if}
use Rattle.un_ask.specs.declared.word.EditWord.{EditWord}
use Rattle.un_ask.specs.declared.request.Command.{Command}
use Rattle.un_ask.specs.declared.request.Command.TheVariants as command
use Rattle.un_ask.specs.declared.reply.Reply.TheVariants as reply
use Rattle.un_core.specs.State.{State}
use Rattle.un_core.specs.Step.{id_of, ids_of_all, dirtied_by_batch, edited, batched, rule_of, ruled, dirtied_by_rule, next_state, dirtied_by}
use Rattle.un_core.specs.Validation.{met, errors_under, validated}
use Rattle.un_core.specs.Refusals.{edit_refusal, batch_refusal, rule_refusal, update_refusal, refused_place, numbers_refusal}
use Rattle.un_core.specs.Updating.{updated, updated_reply}
use Rattle.un_ask.specs.declared.reply.Reply.{Reply}
use Rattle.un_facts.specs.Refusals.{is_of_features}
use Rattle.un_core.specs.Commands.{is_known, known_refusal, command_refusal, refusal_reply, refused_edit, accepted, step, word_of, areas_of_edit, edit_reply, first_and_count, refused}

some_none : {A : Type 0} {x : A} → Some x ≡ None → ⊥
some_none e = cc

-- ---- the step

module _ (s : State) (c : Command) where
  by_first : (d : Option Refusal) → command_refusal s c ≡ d
      → step s c ≡ option_map_or (λ r. inr (refusal_reply s c r)) d (inl (next_state s c, (accepted s c, dirtied_by s c)))
  by_first d is = ap (λ d. option_map_or (λ r. inr (refusal_reply s c r)) d (inl (next_state s c, (accepted s c, dirtied_by s c)))) is

  first_is : (b : Bool) (d : Option Refusal) → is_known c ≡ b → known_refusal s c ≡ d → command_refusal s c ≡ first_refusal (refused_if (not b) (refusal.BadRequest place.Do) ∷ d ∷ [])
  first_is b d known cause = λ i. first_refusal (refused_if (not (known i)) (refusal.BadRequest place.Do) ∷ cause i ∷ [])

  pub step_done : is_known c ≡ true → known_refusal s c ≡ None → step s c ≡ inl (next_state s c, (accepted s c, dirtied_by s c))
  step_done known none = by_first None (first_is true None known none)

  pub step_refused : (r : Refusal) → is_known c ≡ true → known_refusal s c ≡ Some r → step s c ≡ inr (refusal_reply s c r)
  step_refused r known cause = by_first (Some r) (first_is true (Some r) known cause)

  refused_whole : is_known c ≡ false → refused_edit s c ≡ None
  refused_whole unknown_c = go c unknown_c
    where
      go : (c : Command) → is_known c ≡ false → refused_edit s c ≡ None
      go (command.Batch es) not_known = λ i. option_map_or (λ r. None) (refused_if (not (not_known i)) (refusal.BadRequest place.Do)) (refused_place s es)
      go _ not_known = refl

  pub step_unknown : is_known c ≡ false → step s c ≡ inr (refused s (refusal.BadRequest place.Do))
  step_unknown not_known =
      by_first (Some (refusal.BadRequest place.Do)) (first_is false (known_refusal s c) not_known refl)
      ∙ ap (λ at. inr (reply.Refused (refusal.BadRequest place.Do) at s.version)) (refused_whole not_known)

-- ---- edits

-- an edit of the features has a word
pub has_word : (e : Edit) → is_of_features e ≡ true → word_of e ≡ None → ⊥
has_word (edit.Insert kind points attrs flow ends note) known none = some_none none
has_word (edit.Reshape id base points) known none = some_none none
has_word (edit.Attrs id base attrs) known none = some_none none
has_word (edit.Kind id base kind) known none = some_none none
has_word (edit.Path id base path) known none = some_none none
has_word (edit.Flow id base flow) known none = some_none none
has_word (edit.Ends id base ends) known none = some_none none
has_word (edit.Note id base note) known none = some_none none
has_word (edit.Delete id base) known none = some_none none
has_word (edit.Connect from to) known none = some_none none
has_word (edit.Contain container content) known none = some_none none
has_word (edit.Attach structure content) known none = some_none none
has_word (edit.Detach assoc) known none = some_none none
has_word (edit.Controller id terminal tier subnet) known none = some_none none
has_word (edit.Uncontroller id terminal) known none = some_none none
has_word _ known none = true≢false (sym known)

pub edit_done : (s : State) (e : Edit) (w : EditWord) → is_of_features e ≡ true → word_of e ≡ Some w → (next : State) → next ≡ edited s e → edit_refusal s e ≡ None
    → (areas : List ℕ) (id version : ℕ) (mark : List Rectangle) → areas ≡ areas_of_edit s e → id ≡ id_of s e → version ≡ s.version + 1 → mark ≡ dirtied s.features e
    → inl (next, (reply.Edited areas id w version, mark)) ≡ step s (command.Edit e)
edit_done s e w known word next next_is cause areas id version mark areas_are id_is version_is mark_is =
    let replied : reply.Edited areas id w version ≡ edit_reply s e =
    (λ i. reply.Edited (areas_are i) (id_is i) w (version_is i))
    ∙ ap (λ o. option_map_or (λ w. reply.Edited (areas_of_edit s e) (id_of s e) w (s.version + 1)) o (reply.Ruled (areas_of_edit s e) (length s.features.rules + 1) (s.version + 1))) (sym word) in
    (λ i. inl (next_is i, (replied i, mark_is i))) ∙ sym (step_done s (command.Edit e) known cause)

pub edit_refused : (s : State) (e : Edit) → is_of_features e ≡ true → (r : Refusal) → edit_refusal s e ≡ Some r → inr (refused s r) ≡ step s (command.Edit e)
edit_refused s e known r cause = sym (step_refused s (command.Edit e) r known cause)

-- ---- batches

pub batch_done : (s : State) (es : List Edit) → is_known (command.Batch es) ≡ true → (next : State) → next ≡ batched s es → batch_refusal s es ≡ None
    → (areas ids : List ℕ) (version : ℕ) (mark : List Rectangle)
    → areas ≡ first_and_count s.next_area (length (dirtied_by_batch s es)) → ids ≡ ids_of_all s es → version ≡ s.version + 1 → mark ≡ dirtied_by_batch s es
    → inl (next, (reply.Batch areas ids version, mark)) ≡ step s (command.Batch es)
batch_done s es known next next_is cause areas ids version mark areas_are ids_are version_is mark_is =
    (λ i. inl (next_is i, (reply.Batch (areas_are i) (ids_are i) (version_is i), mark_is i))) ∙ sym (step_done s (command.Batch es) known cause)

pub batch_refused : (s : State) (es : List Edit) → is_known (command.Batch es) ≡ true → (r : Refusal) → batch_refusal s es ≡ Some r
    → inr (reply.Refused r (refused_place s es) s.version) ≡ step s (command.Batch es)
batch_refused s es known r cause =
    let place : refused_place s es ≡ refused_edit s (command.Batch es) =
    λ i. option_map_or (λ r. None) (refused_if (not (sym known i)) (refusal.BadRequest place.Do)) (refused_place s es) in
    ap (λ place. inr (reply.Refused r place s.version)) place ∙ sym (step_refused s (command.Batch es) r known cause)

-- ---- validations

pub validation_done : (s : State) (extent : Rectangle) (next : State) → next ≡ validated s extent → numbers_refusal s ≡ None
    → (cleared errors version : ℕ) (mark : List Rectangle) → cleared ≡ length (met extent s.areas) → errors ≡ errors_under s (met extent s.areas) → version ≡ s.version + 1 → mark ≡ []
    → inl (next, (reply.Validated cleared errors version, mark)) ≡ step s (command.Validate extent)
validation_done s extent next next_is cause cleared errors version mark cleared_are errors_are version_is mark_is =
    (λ i. inl (next_is i, (reply.Validated (cleared_are i) (errors_are i) (version_is i), mark_is i))) ∙ sym (step_done s (command.Validate extent) refl cause)

pub validation_refused : (s : State) (extent : Rectangle) (r : Refusal) → numbers_refusal s ≡ Some r → inr (refused s r) ≡ step s (command.Validate extent)
validation_refused s extent r cause = sym (step_refused s (command.Validate extent) r refl cause)

-- ---- updates

pub update_done : (s : State) (tier subnet : List ℕ) (next : State) → next ≡ updated s tier subnet → update_refusal s tier subnet ≡ None
    → (reply : Reply) (mark : List Rectangle) → reply ≡ updated_reply s tier subnet → mark ≡ []
    → inl (next, (reply, mark)) ≡ step s (command.Update tier subnet)
update_done s tier subnet next next_is cause reply mark reply_is mark_is =
    (λ i. inl (next_is i, (reply_is i, mark_is i))) ∙ sym (step_done s (command.Update tier subnet) refl cause)

pub update_refused : (s : State) (tier subnet : List ℕ) (r : Refusal) → update_refusal s tier subnet ≡ Some r → inr (refused s r) ≡ step s (command.Update tier subnet)
update_refused s tier subnet r cause = sym (step_refused s (command.Update tier subnet) r refl cause)

-- ---- rules

pub rule_done : (s : State) (named : NamedRule) (next : State) → next ≡ ruled s (rule_of s named) → rule_refusal s named ≡ None
    → (areas : List ℕ) (rules version : ℕ) (mark : List Rectangle)
    → areas ≡ first_and_count s.next_area (length (dirtied_by_rule s (rule_of s named))) → rules ≡ length s.features.rules + 1 → version ≡ s.version + 1
    → mark ≡ dirtied_by_rule s (rule_of s named)
    → inl (next, (reply.Ruled areas rules version, mark)) ≡ step s (command.Rule named)
rule_done s named next next_is cause areas rules version mark areas_are rules_are version_is mark_is =
    (λ i. inl (next_is i, (reply.Ruled (areas_are i) (rules_are i) (version_is i), mark_is i))) ∙ sym (step_done s (command.Rule named) refl cause)

pub rule_refused : (s : State) (named : NamedRule) (r : Refusal) → rule_refusal s named ≡ Some r → inr (refused s r) ≡ step s (command.Rule named)
rule_refused s named r cause = sym (step_refused s (command.Rule named) r refl cause)

pub ruled_next_area : (s : State) (o : Option Rule) → (ruled s o).next_area ≡ s.next_area + length (dirtied_by_rule s o)
ruled_next_area s None = omega arith
ruled_next_area s (Some rule) = refl

pub ruled_version : (s : State) (o : Option Rule) → (ruled s o).version ≡ s.version + 1
ruled_version s None = refl
ruled_version s (Some rule) = refl

-- ---- areas

-- the areas that a state has beyond another, by their count
pub areas_of : (s t : State) (count : ℕ) (areas : List ℕ) → areas ≡ first_and_count s.next_area (t.next_area - s.next_area) → t.next_area ≡ s.next_area + count
    → areas ≡ first_and_count s.next_area count
areas_of s t count areas is more =
    let counted : t.next_area - s.next_area ≡ count = omega (arith, more) in
    is ∙ ap (first_and_count s.next_area) counted
