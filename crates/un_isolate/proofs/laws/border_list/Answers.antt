use Rattle.un_isolate.proofs.Listing.{border_list}
use Rattle.un_isolate.proofs.laws.border_list.Goals as goal

pub returns : goal.returns
returns c = border_list
