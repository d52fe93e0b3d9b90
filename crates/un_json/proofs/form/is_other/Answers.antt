use Rattle.std.specs.Prelude.{not}
use Rattle.std.proofs.Common.{ap, rules, tests}
use Rattle.std.proofs.lemmas.Iterator.{YieldsList-from_slice}
use Rattle.std.proofs.lemmas.Iterator.Search.{any_from_yields_List}
use Rattle.un_json.specs.Rows.{is_named}
use Rattle.un_json.proofs.form.is_other.Goals as goal

pub returns : goal.returns
returns c = ap not (any_from_yields_List (is_named c.args.name.now) _ _ _ c.any.ensures.ran (YieldsList-from_slice c.args.places.now cc) (λ x b q k. search (rules, tests)))
