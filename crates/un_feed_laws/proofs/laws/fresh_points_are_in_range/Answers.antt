use Rattle.un_feed_laws.proofs.FreshPlaces.{fresh_places}
use Rattle.un_feed_laws.proofs.laws.fresh_points_are_in_range.Goals as goal

pub returns : goal.returns
returns c = fresh_places
