use Rattle.std.proofs.Common.{◌≡◌, ◌+◌, length, inr, ap, ◌∙◌, rules, arith}
use Rattle.un_core.specs.State.{State}
use Rattle.un_core.specs.Step.{rule_of, dirtied_by_rule}
use Rattle.un_core.specs.Commands.{refused}
use Rattle.un_core.proofs.Applying.{rule_done, rule_refused, ruled_next_area, ruled_version, areas_of}
use Rattle.un_core.proofs.net.Net.apply_rule.Goals as goal

pub areas_made-requires : goal.areas_made-requires
areas_made-requires c =
    let s = c.args.self.now in
    let more = ruled_next_area s (rule_of s c.args.rule.now) in
    omega (arith, ap (λ (t : State). t.next_area) c.in-Ok.ensures.state, more)

pub returns-in-Ok : goal.returns-in-Ok
returns-in-Ok c =
    let s = c.args.self.now in
    let named = c.args.rule.now in
    let o = rule_of s named in
    let next = c.in-Ok.field-0.net in
    let more : next.next_area ≡ s.next_area + length (dirtied_by_rule s o) = ap (λ (t : State). t.next_area) c.in-Ok.ensures.state ∙ ruled_next_area s o in
    rule_done s named next c.in-Ok.ensures.state c.in-Ok.ensures.good c.areas_made.result c.rules.result c.net.inside.version c.new.result
    (areas_of s next (length (dirtied_by_rule s o)) c.areas_made.result c.areas_made.ensures more)
    (c.rules.ensures ∙ c.in-Ok.ensures.rules)
    (ap (λ (t : State). t.version) (c.net.view_is ∙ c.in-Ok.ensures.state) ∙ ruled_version s o)
    (c.new.ensures ∙ c.in-Ok.ensures.dirtied)

pub returns-in-Err : goal.returns-in-Err
returns-in-Err c =
    let r = c.in-Err.refusal in
    c.refused.ensures ∙ ap (λ (t : State). inr (refused t r)) c.self.view_is ∙ rule_refused c.args.self.now c.args.rule.now r (c.in-Err.ensures.bad (search rules))
