use Rattle.un_feed_laws.proofs.LogsKept.{kept_pairs}
use Rattle.un_feed_laws.proofs.laws.kept_pairs_are_sound.Goals as goal

pub returns : goal.returns
returns c = kept_pairs
