use Rattle.un_defs.proofs.SameStar.{stars}
use Rattle.un_defs.proofs.laws.same_star.Goals as goal

pub returns : goal.returns
returns c = stars
