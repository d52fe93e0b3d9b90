use Rattle.un_schema_json.proofs.Sound.{schema_is_catalog}
use Rattle.un_schema_json.proofs.laws.schemas_are_catalogs.Goals as goal

pub returns : goal.returns
returns c = schema_is_catalog
