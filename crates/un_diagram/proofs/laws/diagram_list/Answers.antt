use Rattle.un_diagram.proofs.Listing.{diagram_listed}
use Rattle.un_diagram.proofs.laws.diagram_list.Goals as goal

pub returns : goal.returns
returns c = diagram_listed
