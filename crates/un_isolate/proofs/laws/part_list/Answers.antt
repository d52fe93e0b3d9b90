use Rattle.un_isolate.proofs.Listing.{part_list}
use Rattle.un_isolate.proofs.laws.part_list.Goals as goal

pub returns : goal.returns
returns c = part_list
