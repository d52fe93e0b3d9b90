use Rattle.std.proofs.Common.{◌≡◌, inr, ap, ◌∙◌, rules}
use Rattle.un_core.specs.State.{State}
use Rattle.un_core.specs.Validation.{validated}
use Rattle.un_core.specs.Commands.{refused}
use Rattle.un_core.proofs.Applying.{validation_done, validation_refused}
use Rattle.un_core.proofs.net.Net.apply_validate.Goals as goal

pub returns-in-Ok : goal.returns-in-Ok
returns-in-Ok c =
    let v = c.in-Ok.field-0 in
    let state : v.net ≡ validated c.args.self.now c.args.extent = c.in-Ok.ensures.state in
    validation_done c.args.self.now c.args.extent v.net state c.in-Ok.ensures.good v.cleared v.errors c.net.inside.version c.new-in-Ok.result
    c.in-Ok.ensures.cleared c.in-Ok.ensures.errors (ap (λ (t : State). t.version) (c.net.view_is ∙ state))
    (c.new-in-Ok.ensures ∙ c.new.ensures.items)

pub returns-in-Err : goal.returns-in-Err
returns-in-Err c =
    let s = c.args.self.now in
    let r = c.in-Err.refusal in
    c.refused.ensures ∙ ap (λ (t : State). inr (refused t r)) c.self.view_is ∙ validation_refused s c.args.extent r (c.in-Err.ensures.bad (search rules))
