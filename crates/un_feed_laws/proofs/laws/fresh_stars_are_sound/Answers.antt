use Rattle.un_feed_laws.proofs.FreshStars.{fresh_stars}
use Rattle.un_feed_laws.proofs.laws.fresh_stars_are_sound.Goals as goal

pub returns : goal.returns
returns c = fresh_stars
