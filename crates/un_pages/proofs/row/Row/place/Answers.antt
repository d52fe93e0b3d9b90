use Rattle.un_pages.proofs.Searched.{place_found, place_before}
use Rattle.un_pages.proofs.row.Row.place.Goals as goal

pub returns-in-Ok : goal.returns-in-Ok
returns-in-Ok g c = place_found g.met.K.Ord.total c.args.key.now _ _ c.in-Ok.ensures.found

pub returns-in-Err : goal.returns-in-Err
returns-in-Err g c = place_before g.met.K.Ord.total c.args.key.now _ _ c.in-Err.at-test.1 c.in-Err.ensures.gap
