use Rattle.un_diagram.proofs.Connected.{connected}
use Rattle.un_diagram.proofs.laws.connection_is_kept.Goals as goal

pub returns : goal.returns
returns c = λ G ask reached d of n m kept also. connected G ask reached d of n m kept also
