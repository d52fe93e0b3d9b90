use Rattle.std.proofs.Common.{◌≡◌, List, Some, ap, ◌∙◌}
use Rattle.un_ask.specs.declared.request.Command.{Command}
use Rattle.un_ask.specs.declared.request.Command.TheVariants.{Validate}
use Rattle.un_ask.specs.declared.reply.Reply.{Reply}
use Rattle.un_core.specs.State.{State}
use Rattle.un_core.specs.Commands.{state_after, command_reply}
use Rattle.un_gen.specs.Generator.{seeded, joints, pipes, whole}
use Rattle.un_script.specs.Made.{errors_of}
use Rattle.un_script.specs.Redone.{redone}
use Rattle.un_script.proofs.Runs.{state_of_run, errors_of_run}
use Rattle.un_script.proofs.make.network.apply_all.Goals as goal

pub returns-clause-state : goal.returns-clause-state
returns-clause-state c =
    let net : State = c.args.net in
    let cs : List Command = joints c.args.count in
    let ds : List Command = pipes c.args.count (seeded c.args.seed) c.args.count in
    let is : c.in_ok-with_pipes.with_pipes ≡ redone (redone net cs) ds = c.in_ok-with_pipes.ensures ∙ ap (λ (t : State). redone t ds) c.in_ok-with_joints.ensures in
    let last : state_after c.in_ok-with_pipes.with_pipes c.validation.result ≡ state_after (redone (redone net cs) ds) (Validate whole) =
    λ i. state_after (is i) (c.validation.ensures i) in
    c.in_ok-checked.ensures.state ∙ last ∙ state_of_run net cs ds (Validate whole)

pub returns-clause-errors : goal.returns-clause-errors
returns-clause-errors c =
    let net : State = c.args.net in
    let cs : List Command = joints c.args.count in
    let ds : List Command = pipes c.args.count (seeded c.args.seed) c.args.count in
    let is : c.in_ok-with_pipes.with_pipes ≡ redone (redone net cs) ds = c.in_ok-with_pipes.ensures ∙ ap (λ (t : State). redone t ds) c.in_ok-with_joints.ensures in
    let last : errors_of (Some (command_reply c.in_ok-with_pipes.with_pipes c.validation.result)) ≡ errors_of (Some (command_reply (redone (redone net cs) ds) (Validate whole))) =
    λ i. errors_of (Some (command_reply (is i) (c.validation.ensures i))) in
    c.errors_of.ensures ∙ ap (λ (r : Reply). errors_of (Some r)) c.in_ok-checked.ensures.reply ∙ last ∙ errors_of_run net cs ds (Validate whole)
