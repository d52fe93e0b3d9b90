use Rattle.un_feed.proofs.Following.{spans_followed}
use Rattle.un_feed.proofs.laws.spans_are_followed.Goals as goal

pub returns : goal.returns
returns c = spans_followed
