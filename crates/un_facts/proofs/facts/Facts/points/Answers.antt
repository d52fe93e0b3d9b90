use Rattle.std.proofs.Common.{subst, sym}
use Rattle.un_facts.specs.Known.{Known}
use Rattle.un_facts.specs.Places.{ArePlaces}
use Rattle.un_facts.proofs.Placed.{are_places}
use Rattle.un_facts.proofs.facts.Facts.points.Goals as goal

pub returns : goal.returns
returns c =
    subst (λ (K : Known). ArePlaces K.features c.args.extent c.in_ok-points.points.items) c.parts.ensures.value
    (subst (ArePlaces _ c.args.extent) (sym c.in_ok-points.ensures.points) (are_places c.parts.result.now.grid _ c.args.extent c.parts.ensures.grid))
