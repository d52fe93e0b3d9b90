use Rattle.un_feed.proofs.Applying.{applied_differences}
use Rattle.un_feed.proofs.laws.applied_difference.Goals as goal

pub returns : goal.returns
returns c = applied_differences
