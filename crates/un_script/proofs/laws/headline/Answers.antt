use Rattle.un_script.proofs.History.{headline}
use Rattle.un_script.proofs.laws.headline.Goals as goal

pub returns : goal.returns
returns c = headline c.schemas_are_catalogs.ensures c.opening_has_no_history.ensures c.states_are_faithful.ensures c.requests_lead.ensures
