use Rattle.std.proofs.Common.{ap, ◌∙◌}
use Rattle.un_defs.specs.Star.{star}
use Rattle.un_facts.specs.Known.{in_force}
use Rattle.un_rebuild.proofs.topology.built.Goals as goal

pub returns : goal.returns
returns c =
    let K = c.args.facts.now in
    c.in_ok-new.ensures.ok ∙ c.in_ok-build.ensures
    ∙ ap (λ known. star (in_force known) known.features c.args.p) c.live.ensures
