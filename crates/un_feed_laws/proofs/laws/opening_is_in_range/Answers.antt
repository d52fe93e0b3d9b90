use Rattle.un_feed_laws.proofs.CommandsKept.{opening_in_range}
use Rattle.un_feed_laws.proofs.laws.opening_is_in_range.Goals as goal

pub returns : goal.returns
returns c = opening_in_range
