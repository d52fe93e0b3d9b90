use Rattle.un_path.proofs.SamePath.{same_path}
use Rattle.un_path.proofs.laws.same_path.Goals as goal

pub returns : goal.returns
returns c = same_path
