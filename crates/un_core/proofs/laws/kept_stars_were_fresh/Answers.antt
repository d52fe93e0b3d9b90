use Rattle.un_core.proofs.Once.{kept_were_fresh}
use Rattle.un_core.proofs.laws.kept_stars_were_fresh.Goals as goal

pub returns : goal.returns
returns c = kept_were_fresh
