use Rattle.un_diagram.proofs.SameDiagram.{same_diagram}
use Rattle.un_diagram.proofs.laws.same_diagram.Goals as goal

pub returns : goal.returns
returns c = same_diagram
