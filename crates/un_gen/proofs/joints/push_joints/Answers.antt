use Rattle.std.proofs.Common.{◌∙◌, ◌++◌, ◌∷◌, [], sym, ap, append_assoc, arith}
use Rattle.std.proofs.lemmas.List.FromFn.{map-range_with_len_more}
use Rattle.un_gen.specs.Generator.{joints, joint_at}
use Rattle.un_gen.proofs.joints.push_joints.Goals as goal

pub loop-place-preserved : goal.loop-place-preserved
loop-place-preserved c =
    c.in_ok-push.ensures.items
    ∙ (λ i. c.loop-place.invariant i ++ c.in_ok-joint.ensures i ∷ [])
    ∙ append_assoc c.args.commands.now.items (joints c.loop-place.place) (joint_at c.loop-place.place ∷ [])
    ∙ ap (λ l. c.args.commands.now.items ++ l) (sym (map-range_with_len_more joint_at 0 c.loop-place.place c.loop-place.place (omega arith)))
