use Rattle.un_diagram.proofs.Connected.{in_one_place}
use Rattle.un_diagram.proofs.laws.each_in_one_place.Goals as goal

pub returns : goal.returns
returns c = λ G ask reached d of n has free. in_one_place G ask reached d of n has free
