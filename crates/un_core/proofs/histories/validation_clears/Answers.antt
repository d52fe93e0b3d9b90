use Rattle.un_core.proofs.Clearing.{validation_does}
use Rattle.un_core.proofs.histories.validation_clears.Goals as goal

pub returns : goal.returns
returns c = validation_does
