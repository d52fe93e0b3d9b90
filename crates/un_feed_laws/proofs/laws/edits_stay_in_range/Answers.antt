use Rattle.un_feed_laws.proofs.EditsKept.{edits_kept}
use Rattle.un_feed_laws.proofs.laws.edits_stay_in_range.Goals as goal

pub returns : goal.returns
returns c = edits_kept
