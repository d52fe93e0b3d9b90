use Rattle.un_isolate.proofs.NeededList.{needed_list}
use Rattle.un_isolate.proofs.laws.needed_list.Goals as goal

pub returns : goal.returns
returns c = needed_list
