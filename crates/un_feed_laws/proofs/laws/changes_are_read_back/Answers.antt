use Rattle.un_feed_laws.proofs.PagesSound.{changes_back}
use Rattle.un_feed_laws.proofs.laws.changes_are_read_back.Goals as goal

pub returns : goal.returns
returns c = changes_back c.pages_are_read_back.ensures
