-- What a step gives is the reply to its command and the state after it.
use Rattle.std.proofs.Common.{◌≡◌, ◌+◌, ◌≤◌, suc, List, [], ◌∷◌, length, Option, None, Some, inl, inr, refl, sym, ap, subst}
use Rattle.std.specs.Option.{option_map_or}
use Rattle.un_geom.specs.Rectangle.{Rectangle}
use Rattle.un_defs.specs.declared.edit.Edit.{Edit}
use Rattle.un_defs.specs.declared.refusal.Refusal.{Refusal}
use Rattle.un_ask.specs.declared.word.EditWord.{EditWord}
use Rattle.un_ask.specs.declared.request.Command.{Command}
use Rattle.un_ask.specs.declared.request.Command.TheVariants as command
use Rattle.un_ask.specs.declared.reply.Reply.{Reply}
use Rattle.un_ask.specs.declared.reply.Reply.TheVariants as reply
use Rattle.un_ask.specs.Replies.{IsOfCommand, HasFewIds, HasFewEdits}
use Rattle.un_core.specs.State.{State}
use Rattle.un_core.specs.Step.{id_of, ids_of_all, made_at, next_state, dirtied_by}
use Rattle.un_core.specs.Commands.{Stepped, command_refusal, refusal_reply, accepted, step, word_of, areas_of_edit, edit_reply, command_reply, state_after, StepLaw}

-- ---- what it gives

pub one_done : (x : Stepped) (p q : State × (Reply × List Rectangle)) → x ≡ inl p → x ≡ inl q → p ≡ q
one_done x p q a b = cc

one_refused : (x : Stepped) (p q : Reply) → x ≡ inr p → x ≡ inr q → p ≡ q
one_refused x p q a b = cc

pub not_both : (x : Stepped) (p : State × (Reply × List Rectangle)) (r : Reply) → x ≡ inl p → x ≡ inr r → ⊥
not_both x p r a b = cc

module _ (s : State) (c : Command) where
  abbrev pub by : Option Refusal → Stepped
  by d = option_map_or (λ r. inr (refusal_reply s c r)) d (inl (next_state s c, (accepted s c, dirtied_by s c)))

  pub when_done : (t : State) (r : Reply) (mark : List Rectangle) → step s c ≡ inl (t, (r, mark)) → (t ≡ state_after s c) × (r ≡ command_reply s c)
  when_done t r mark is = go (command_refusal s c) is
    where
      go : (d : Option Refusal) → by d ≡ inl (t, (r, mark)) → (t ≡ option_map_or (λ r. s) d (next_state s c)) × (r ≡ option_map_or (refusal_reply s c) d (accepted s c))
      go None is =
          let same = one_done (by None) (next_state s c, (accepted s c, dirtied_by s c)) (t, (r, mark)) refl is in
          (sym (ap (λ (p : State × (Reply × List Rectangle)). p.0) same), sym (ap (λ (p : State × (Reply × List Rectangle)). p.1.0) same))
      go (Some d) is = absurd (not_both (by (Some d)) (t, (r, mark)) (refusal_reply s c d) is refl)

  pub when_refused : (r : Reply) → step s c ≡ inr r → (s ≡ state_after s c) × (r ≡ command_reply s c)
  when_refused r is = go (command_refusal s c) is
    where
      go : (d : Option Refusal) → by d ≡ inr r → (s ≡ option_map_or (λ r. s) d (next_state s c)) × (r ≡ option_map_or (refusal_reply s c) d (accepted s c))
      go None is = absurd (not_both (by None) (next_state s c, (accepted s c, dirtied_by s c)) r refl is)
      go (Some d) is = (refl, sym (one_refused (by (Some d)) (refusal_reply s c d) r refl is))

-- ---- its form

-- a reply of a command, with at most as many ids as a batch has edits
record IsShort (c : Command) (r : Reply) : Type 0 where
  command : IsOfCommand r
  few : HasFewEdits c → HasFewIds r

edit_short : (s : State) (e : Edit) → IsShort (command.Edit e) (edit_reply s e)
edit_short s e = go (word_of e)
  where
    go : (o : Option EditWord) → IsShort (command.Edit e) (option_map_or (λ w. reply.Edited (areas_of_edit s e) (id_of s e) w (s.version + 1)) o
        (reply.Ruled (areas_of_edit s e) (length s.features.rules + 1) (s.version + 1)))
    go None = record { command = tt; few = λ few. tt }
    go (Some w) = record { command = tt; few = λ few. tt }

-- a batch has an id for each edit
count_ids : (s : State) (es : List Edit) → length (ids_of_all s es) ≡ length es
count_ids s [] = refl
count_ids s (e ∷ es) = ap suc (count_ids (made_at 0 s e) es)

accepted_short : (s : State) (c : Command) → IsShort c (accepted s c)
accepted_short s (command.Edit e) = edit_short s e
accepted_short s (command.Batch es) = record { command = tt; few = λ few. subst (λ n. n ≤ 256) (sym (count_ids s es)) few }
accepted_short s (command.Validate extent) = record { command = tt; few = λ few. tt }
accepted_short s (command.Rule named) = record { command = tt; few = λ few. tt }
accepted_short s (command.Update tier subnet) = record { command = tt; few = λ few. tt }

reply_short : (s : State) (c : Command) → IsShort c (command_reply s c)
reply_short s c = go (command_refusal s c)
  where
    go : (d : Option Refusal) → IsShort c (option_map_or (refusal_reply s c) d (accepted s c))
    go None = accepted_short s c
    go (Some r) = record { command = tt; few = λ few. tt }

pub steps_reply : StepLaw
steps_reply s c = record {
  done = when_done s c;
  refused = when_refused s c;
  of_command = (reply_short s c).command;
  few = (reply_short s c).few;
}
