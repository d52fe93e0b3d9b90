use Rattle.std.proofs.Common.{[], ◌++◌, sym, ◌∙◌}
use Rattle.std.specs.Map.Iter.{deref}
use Rattle.un_attrs.specs.Attributes.{attribute}
use Rattle.un_defs.specs.declared.star.Spot.{Spot}
use Rattle.std.specs.List.{cons_option}
use Rattle.un_trace.proofs.Sums.{mapped_more}
use Rattle.un_trace.proofs.functions.values_of.Goals as goal

pub loop-spot-preserved : goal.loop-spot-preserved
loop-spot-preserved c =
    c.in_ok-push_value.ensures
    ∙ (λ i. c.loop-spot.invariant i ++ cons_option (c.attribute.ensures i) [])
    ∙ sym (mapped_more deref (λ (s : Spot). attribute s.attrs c.in-Some.attribute) c.args.spots.now c.loop-spot.spot-index c.spot-item.result c.loop-spot-test.true c.spot-item.is)
