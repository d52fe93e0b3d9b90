use Rattle.un_asof.proofs.Standing.{state_after_replay}
use Rattle.un_asof.proofs.laws.state_after_replay.Goals as goal

pub returns : goal.returns
returns g c = state_after_replay g.M.Machine.step g.J.BoardName.opening
