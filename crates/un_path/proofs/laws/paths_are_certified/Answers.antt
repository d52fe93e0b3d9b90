use Rattle.std.proofs.Common.{refl, subst}
use Rattle.un_defs.specs.declared.walk.Mode.TheVariants.{Any}
use Rattle.un_defs.specs.Reach.{leads}
use Rattle.un_path.specs.Costs.{step_cost}
use Rattle.un_path.specs.Laws.{certificate_of}
use Rattle.un_path.specs.Paths.{IsPathFound}
use Rattle.un_path.proofs.Certified.{is_certified}
use Rattle.un_path.proofs.laws.paths_are_certified.Goals as goal

pub returns : goal.returns
returns c = λ G ask reached found reach asked is.
    is_certified (leads G ask.barriers Any) (step_cost G ask.barriers ask.weight) reached (certificate_of ask found) found reach
    (subst (λ b. IsPathFound (leads G ask.barriers Any) (step_cost G ask.barriers ask.weight) ask.from ask.to b reached found) asked is) refl refl
