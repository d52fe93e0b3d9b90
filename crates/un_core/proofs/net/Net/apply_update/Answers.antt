use Rattle.std.proofs.Common.{inr, ap, ◌∙◌, rules}
use Rattle.un_core.specs.State.{State}
use Rattle.un_core.specs.Commands.{refused}
use Rattle.un_core.proofs.Applying.{update_done, update_refused}
use Rattle.un_core.proofs.net.Net.apply_update.Goals as goal

pub returns-in-Ok : goal.returns-in-Ok
returns-in-Ok c =
    let u = c.in-Ok.field-0 in
    update_done c.args.self.now c.args.tier.now c.args.subnet.now u.net c.in-Ok.ensures.state c.in-Ok.ensures.good u.reply c.new-in-Ok.result c.in-Ok.ensures.reply
    (c.new-in-Ok.ensures ∙ c.new.ensures.items)

pub returns-in-Err : goal.returns-in-Err
returns-in-Err c =
    let s = c.args.self.now in
    let r = c.in-Err.refusal in
    c.refused.ensures ∙ ap (λ (t : State). inr (refused t r)) c.self.view_is
    ∙ update_refused s c.args.tier.now c.args.subnet.now r (c.in-Err.ensures.bad (search rules))
