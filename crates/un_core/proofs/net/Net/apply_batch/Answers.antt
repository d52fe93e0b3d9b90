use Rattle.std.proofs.Common.{◌≡◌, ◌+◌, length, inr, sym, ap, ◌∙◌, rules, arith}
use Rattle.un_ask.specs.declared.reply.Reply.TheVariants as reply
use Rattle.un_core.specs.State.{State}
use Rattle.un_core.specs.Step.{dirtied_by_batch}
use Rattle.un_core.proofs.Applying.{areas_of, batch_done, batch_refused}
use Rattle.un_core.proofs.Batching.{all_of_features, made_areas}
use Rattle.un_core.proofs.net.Net.apply_batch.Goals as goal

pub batch-requires : goal.batch-requires
batch-requires c = record { word = all_of_features c.args.edits.now c.requires.known; few = c.requires.few }

pub areas_made-requires : goal.areas_made-requires
areas_made-requires c =
    omega (arith, ap (λ (t : State). t.next_area) c.in-Ok.ensures.state ∙ made_areas c.args.self.now c.args.edits.now)

pub returns-in-Ok : goal.returns-in-Ok
returns-in-Ok c =
    let s = c.args.self.now in
    let es = c.args.edits.now in
    let next = c.in-Ok.field-0.net in
    let more : next.next_area ≡ s.next_area + length (dirtied_by_batch s es) = ap (λ (t : State). t.next_area) c.in-Ok.ensures.state ∙ made_areas s es in
    batch_done s es c.requires.known next c.in-Ok.ensures.state c.in-Ok.ensures.good c.areas_made.result c.new.result c.net.inside.version c.new-in-Ok.result
    (areas_of s next (length (dirtied_by_batch s es)) c.areas_made.result c.areas_made.ensures more)
    (c.new.ensures ∙ c.in-Ok.ensures.ids)
    (ap (λ (t : State). t.version) (c.net.view_is ∙ c.in-Ok.ensures.state))
    (c.new-in-Ok.ensures ∙ c.in-Ok.ensures.dirtied)

pub returns-in-Err : goal.returns-in-Err
returns-in-Err c =
    let s = c.args.self.now in
    let es = c.args.edits.now in
    let r = c.in-Err.field-0.refusal in
    let bad = c.in-Err.ensures.bad (search rules) in
    c.refused.ensures ∙ (λ i. inr (reply.Refused r (sym bad.1 i) (c.self.view_is i).version)) ∙ batch_refused s es c.requires.known r bad.0
