use Rattle.un_defs.specs.declared.walk.Mode.TheVariants.{Any}
use Rattle.un_defs.specs.Reach.{leads}
use Rattle.un_path.specs.Costs.{step_cost}
use Rattle.un_path.proofs.Found.{finds}
use Rattle.un_path.proofs.laws.path_reply.Goals as goal

pub returns : goal.returns
returns c = λ G ask reached reach own. finds (leads G ask.barriers Any) (step_cost G ask.barriers ask.weight) ask.from reached reach own ask.to ask.certificate
