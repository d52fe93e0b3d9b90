use Rattle.un_feed_laws.proofs.CommandsKept.{commands_kept}
use Rattle.un_feed_laws.proofs.laws.commands_stay_in_range.Goals as goal

pub returns : goal.returns
returns c = commands_kept
