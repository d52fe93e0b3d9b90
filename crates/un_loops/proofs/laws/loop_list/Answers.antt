use Rattle.un_loops.proofs.Listing.{loops_listed}
use Rattle.un_loops.proofs.laws.loop_list.Goals as goal

pub returns : goal.returns
returns c = loops_listed
