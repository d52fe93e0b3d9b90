use Rattle.un_defs.specs.declared.walk.Mode.TheVariants.{Any}
use Rattle.un_defs.specs.Reach.{leads}
use Rattle.un_path.specs.Costs.{step_cost}
use Rattle.un_path.proofs.Judged.{valid_from, valid_by_test}
use Rattle.un_path.proofs.laws.check_reply.Goals as goal

pub returns : goal.returns
returns c = λ G ask reached reach. (
  valid_from (leads G ask.barriers Any) (step_cost G ask.barriers ask.weight) reached ask,
  valid_by_test (leads G ask.barriers Any) (step_cost G ask.barriers ask.weight) reached ask reach,
)
