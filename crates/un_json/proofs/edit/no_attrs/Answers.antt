use Rattle.un_json.proofs.Attributes.{none_named}
use Rattle.un_json.proofs.edit.no_attrs.Goals as goal

pub new-requires-2 : goal.new-requires-2
new-requires-2 c = none_named _ c.new.ensures.items
