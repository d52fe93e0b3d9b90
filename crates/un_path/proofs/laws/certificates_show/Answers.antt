use Rattle.un_defs.specs.declared.walk.Mode.TheVariants.{Any}
use Rattle.un_defs.specs.Reach.{leads}
use Rattle.un_path.specs.Costs.{step_cost}
use Rattle.un_path.proofs.Labelled.{shows_least}
use Rattle.un_path.proofs.laws.certificates_show.Goals as goal

pub returns : goal.returns
returns c = λ G ask reached reach valid. shows_least (leads G ask.barriers Any) (step_cost G ask.barriers ask.weight) reached ask reach valid
