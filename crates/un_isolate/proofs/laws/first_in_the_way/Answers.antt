use Rattle.un_isolate.proofs.Listing.{first_listed}
use Rattle.un_isolate.proofs.laws.first_in_the_way.Goals as goal

pub returns : goal.returns
returns c = first_listed
