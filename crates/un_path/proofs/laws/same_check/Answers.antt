use Rattle.un_path.proofs.SamePath.{same_check}
use Rattle.un_path.proofs.laws.same_check.Goals as goal

pub returns : goal.returns
returns c = same_check
