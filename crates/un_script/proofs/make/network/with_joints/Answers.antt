use Rattle.std.proofs.Common.{◌∙◌, List, sym, ap, arith}
use Rattle.std.proofs.lemmas.List.FromFn.{map-range_with_len_more}
use Rattle.un_ask.specs.declared.request.Command.{Command}
use Rattle.un_core.specs.Commands.{state_after}
use Rattle.un_gen.specs.Generator.{joints, joint_at}
use Rattle.un_script.specs.Redone.{redone}
use Rattle.un_script.proofs.Redone.{redone_push}
use Rattle.un_script.proofs.make.network.with_joints.Goals as goal

pub loop-place-preserved : goal.loop-place-preserved
loop-place-preserved c =
    let place = c.loop-place.place in
    c.in_ok-next.ensures.state
    ∙ (λ i. state_after (c.loop-place.invariant i) (c.in_ok-joint.ensures i))
    ∙ sym (redone_push c.args.net (joints place) (joint_at place))
    ∙ ap (λ (cs : List Command). redone c.args.net cs) (sym (map-range_with_len_more joint_at 0 place place (omega arith)))
