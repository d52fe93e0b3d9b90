use Rattle.std.proofs.Common.{◌≡◌, ◌+◌, length, None, Some, refl, sym, ap, ◌∙◌, rules}
use Rattle.un_defs.specs.Dirtied.{dirtied}
use Rattle.un_core.specs.State.{State}
use Rattle.un_core.specs.Step.{id_of, made_at, edited}
use Rattle.un_core.specs.Commands.{refused, first_and_count}
use Rattle.un_core.proofs.Making.{edit_bad, edit_beside}
use Rattle.un_core.proofs.InPlace.{edit_goes, edit_stays}
use Rattle.un_core.proofs.net.Net.stepped_by_edit.Goals as goal

pub returns-in-Err-clause-state : goal.returns-in-Err-clause-state
returns-in-Err-clause-state c =
    let s = c.args.self in
    let e = c.args.edit.now in
    let r = c.in-Err.refusal in
    (edit_stays s e c.requires.known r (edit_bad s e r c.in-Err.ensures.bad) (refused s r) refl).0

pub returns-in-Err-clause-reply : goal.returns-in-Err-clause-reply
returns-in-Err-clause-reply c =
    let s = c.args.self in
    let e = c.args.edit.now in
    let r = c.in-Err.refusal in
    (edit_stays s e c.requires.known r (edit_bad s e r c.in-Err.ensures.bad) c.refusal_reply.result
    (c.refusal_reply.ensures ∙ ap (λ (t : State). refused t r) c.self.view_is)).1

pub returns-in_ok-net-in-Ok-clause-state : goal.returns-in_ok-net-in-Ok-clause-state
returns-in_ok-net-in-Ok-clause-state c =
    let s = c.args.self in
    let e = c.args.edit.now in
    let moment = c.self.inside.version + 1 in
    let moment_is : moment ≡ s.version + 1 = ap (λ (t : State). t.version + 1) c.self.view_is in
    let next_is : record c.in_ok-net-in-Ok.field-0.net { version = moment } ≡ edited s e =
    ap (λ (t : State). record t { version = moment }) c.in_ok-net-in-Ok.ensures.state ∙ (λ i. record (made_at (moment_is i) s e) { version = moment_is i }) in
    let first_is : c.next_number-first.result ≡ s.next_area = c.next_number-first.ensures.next ∙ ap (λ (t : State). t.next_area) c.self.view_is in
    let count_is : c.len.result ≡ length (dirtied s.features e) = c.len.ensures ∙ c.in_ok-net-in-Ok.field-0.dirtied.ok.0 ∙ ap length c.in_ok-net-in-Ok.ensures.dirtied in
    ap (λ (t : State). record t { version = moment }) c.net.view_is
    ∙ (edit_goes s e c.in-Some.word c.requires.known (sym c.word_of.ensures ∙ c.in-Some.is)
    (record c.in_ok-net-in-Ok.field-0.net { version = moment }) next_is
    (edit_beside s e None c.in_default-check_numbers.ensures.good c.in-Ok.ensures.good)
    c.first_and_count.result c.reply_id.result moment
    (c.first_and_count.ensures ∙ (λ i. first_and_count (first_is i) (count_is i)))
    (c.reply_id.ensures ∙ ap (λ (t : State). id_of t e) c.self.view_is) moment_is).0

pub returns-in_ok-net-in-Ok-clause-reply : goal.returns-in_ok-net-in-Ok-clause-reply
returns-in_ok-net-in-Ok-clause-reply c =
    let s = c.args.self in
    let e = c.args.edit.now in
    let moment = c.self.inside.version + 1 in
    let moment_is : moment ≡ s.version + 1 = ap (λ (t : State). t.version + 1) c.self.view_is in
    let next_is : record c.in_ok-net-in-Ok.field-0.net { version = moment } ≡ edited s e =
    ap (λ (t : State). record t { version = moment }) c.in_ok-net-in-Ok.ensures.state ∙ (λ i. record (made_at (moment_is i) s e) { version = moment_is i }) in
    let first_is : c.next_number-first.result ≡ s.next_area = c.next_number-first.ensures.next ∙ ap (λ (t : State). t.next_area) c.self.view_is in
    let count_is : c.len.result ≡ length (dirtied s.features e) = c.len.ensures ∙ c.in_ok-net-in-Ok.field-0.dirtied.ok.0 ∙ ap length c.in_ok-net-in-Ok.ensures.dirtied in
    (edit_goes s e c.in-Some.word c.requires.known (sym c.word_of.ensures ∙ c.in-Some.is)
    (record c.in_ok-net-in-Ok.field-0.net { version = moment }) next_is
    (edit_beside s e None c.in_default-check_numbers.ensures.good c.in-Ok.ensures.good)
    c.first_and_count.result c.reply_id.result moment
    (c.first_and_count.ensures ∙ (λ i. first_and_count (first_is i) (count_is i)))
    (c.reply_id.ensures ∙ ap (λ (t : State). id_of t e) c.self.view_is) moment_is).1

pub returns-in-Err-change : goal.returns-in-Err-change
returns-in-Err-change c =
    let s = c.args.self in
    let e = c.args.edit.now in
    let r = c.in-Err-change.refusal in
    let stays = edit_stays s e c.requires.known r (edit_beside s e (Some r) c.in_default-check_numbers.ensures.good (c.in-Err-change.ensures.bad (search rules)))
    c.refusal_reply-in-Err-change.result (c.refusal_reply-in-Err-change.ensures ∙ ap (λ (t : State). refused t r) c.self.view_is) in
    record { state = stays.0; reply = stays.1 }
