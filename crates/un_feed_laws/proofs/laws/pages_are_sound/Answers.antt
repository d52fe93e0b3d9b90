use Rattle.un_feed_laws.proofs.PagesSound.{pages_sound}
use Rattle.un_feed_laws.proofs.laws.pages_are_sound.Goals as goal

pub returns : goal.returns
returns c = pages_sound
