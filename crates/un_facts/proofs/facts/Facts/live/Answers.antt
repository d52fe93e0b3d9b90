use Rattle.std.proofs.Common.{subst}
use Rattle.un_facts.specs.Standing.{IsKnown}
use Rattle.un_facts.proofs.InForce.{sound_under}
use Rattle.un_facts.proofs.facts.Facts.live.Goals as goal

pub invariant_of-result : goal.invariant_of-result
invariant_of-result c =
    let K = c.args.self.now in
    record { sound = sound_under K.setup.schema K.features.rules K.features (subst IsKnown c.parts-parts.ensures.value c.parts-parts.ensures.known).sound }
