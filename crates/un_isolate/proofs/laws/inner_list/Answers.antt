use Rattle.un_isolate.proofs.Listing.{inner_list}
use Rattle.un_isolate.proofs.laws.inner_list.Goals as goal

pub returns : goal.returns
returns c = inner_list
