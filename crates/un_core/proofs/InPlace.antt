-- What is left of a network, and what is replied, where a command takes it.
use Rattle.std.proofs.Common.{◌≡◌, ℕ, ◌+◌, true, List, Some, None, inr, refl, sym, ap, ◌∙◌}
use Rattle.un_defs.specs.declared.edit.Edit.{Edit}
use Rattle.un_defs.specs.declared.refusal.Refusal.{Refusal}
use Rattle.un_defs.specs.Dirtied.{dirtied}
use Rattle.un_ask.specs.declared.word.EditWord.{EditWord}
use Rattle.un_ask.specs.declared.request.Command.TheVariants as command
use Rattle.un_ask.specs.declared.reply.Reply.{Reply}
use Rattle.un_ask.specs.declared.reply.Reply.TheVariants as reply
use Rattle.un_facts.specs.Refusals.{is_of_features}
use Rattle.un_core.specs.State.{State}
use Rattle.un_core.specs.Step.{id_of, edited}
use Rattle.un_core.specs.Commands.{refused, word_of, areas_of_edit, state_after, command_reply}
use Rattle.un_core.specs.Refusals.{edit_refusal}
use Rattle.un_core.proofs.Applying.{edit_done, edit_refused}
use Rattle.un_core.proofs.Stepping.{when_done, when_refused}

-- an edit that is made
pub edit_goes : (s : State) (e : Edit) (w : EditWord) → is_of_features e ≡ true → word_of e ≡ Some w → (next : State) → next ≡ edited s e → edit_refusal s e ≡ None
    → (areas : List ℕ) (id version : ℕ) → areas ≡ areas_of_edit s e → id ≡ id_of s e → version ≡ s.version + 1
    → (next ≡ state_after s (command.Edit e)) × (reply.Edited areas id w version ≡ command_reply s (command.Edit e))
edit_goes s e w known word next next_is cause areas id version areas_are id_is version_is =
    when_done s (command.Edit e) next (reply.Edited areas id w version) (dirtied s.features e)
    (sym (edit_done s e w known word next next_is cause areas id version (dirtied s.features e) areas_are id_is version_is refl))

-- an edit that is refused
pub edit_stays : (s : State) (e : Edit) → is_of_features e ≡ true → (r : Refusal) → edit_refusal s e ≡ Some r → (told : Reply) → told ≡ refused s r
    → (s ≡ state_after s (command.Edit e)) × (told ≡ command_reply s (command.Edit e))
edit_stays s e known r cause told is = when_refused s (command.Edit e) told (sym (ap inr is ∙ edit_refused s e known r cause))
