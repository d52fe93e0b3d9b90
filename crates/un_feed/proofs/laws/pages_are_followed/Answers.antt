use Rattle.un_feed.proofs.Following.{pages_followed}
use Rattle.un_feed.proofs.laws.pages_are_followed.Goals as goal

pub returns : goal.returns
returns c = pages_followed
