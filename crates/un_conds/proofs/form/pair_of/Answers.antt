use Rattle.std.proofs.Common.{◌==◌, ◌∙◌, rules, tests}
use Rattle.std.proofs.lemmas.Iterator.{YieldsList-from_slice}
use Rattle.std.proofs.lemmas.Iterator.Search.{find_from_yields_List}
use Rattle.un_conds.proofs.form.pair_of.Goals as goal

pub returns : goal.returns
returns c =
    c.copied.ensures ∙ find_from_yields_List (λ pair. pair.0 == c.args.attribute) _ _ _ c.find.ensures.ran (YieldsList-from_slice c.args.attrs.now cc) (λ x b q k. search (rules, tests))
