use Rattle.std.proofs.Common.{◌≡◌, ◌+◌, length, inr, sym, ap, ◌∙◌, rules, arith}
use Rattle.un_defs.specs.Dirtied.{dirtied}
use Rattle.un_core.specs.State.{State}
use Rattle.un_core.specs.Commands.{refused}
use Rattle.un_core.specs.Step.{id_of}
use Rattle.un_core.proofs.Applying.{edit_done, edit_refused, areas_of}
use Rattle.un_core.proofs.net.Net.apply_edit.Goals as goal

pub edit-requires : goal.edit-requires
edit-requires c = record { word = c.requires.known }

pub areas_made-requires : goal.areas_made-requires
areas_made-requires c = omega (arith, ap (λ (t : State). t.next_area) c.in-Ok.ensures.state)

pub returns-in-Ok : goal.returns-in-Ok
returns-in-Ok c =
    let s = c.args.self.now in
    let e = c.args.edit.now in
    let next = c.in-Ok.field-0.net in
    let more : next.next_area ≡ s.next_area + length (dirtied s.features e) = ap (λ (t : State). t.next_area) c.in-Ok.ensures.state in
    edit_done s e c.in-Some.word c.requires.known (sym c.word_of.ensures ∙ c.in-Some.is) next c.in-Ok.ensures.state c.in-Ok.ensures.good c.areas_made.result c.reply_id.result c.net.inside.version c.new.result
    (areas_of s next (length (dirtied s.features e)) c.areas_made.result c.areas_made.ensures more)
    (c.reply_id.ensures ∙ ap (λ (t : State). id_of t e) c.self.view_is)
    (ap (λ (t : State). t.version) (c.net.view_is ∙ c.in-Ok.ensures.state))
    (c.new.ensures ∙ c.in-Ok.ensures.dirtied)

pub returns-in-Err : goal.returns-in-Err
returns-in-Err c =
    let s = c.args.self.now in
    let e = c.args.edit.now in
    let r = c.in-Err.refusal in
    c.refused.ensures ∙ ap (λ (t : State). inr (refused t r)) c.self.view_is ∙ edit_refused s e c.requires.known r (c.in-Err.ensures.bad (search rules))
