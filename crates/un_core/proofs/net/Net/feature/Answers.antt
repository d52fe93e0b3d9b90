use Rattle.std.proofs.Common.{sym, ap, subst, ◌∙◌}
use Rattle.std.specs.Option.{option_copied}
use Rattle.un_schema.specs.Sound.{IsCatalog}
use Rattle.un_tiers.specs.declared.setup.Setup.{Setup}
use Rattle.un_facts.specs.Attributes.{HasNames}
use Rattle.un_facts.proofs.Attributes.{has_names}
use Rattle.un_core.proofs.net.Net.feature.Goals as goal

pub feature_of_row-requires : goal.feature_of_row-requires
feature_of_row-requires c =
    let K = c.self.inside.facts in
    let r = c.in-Some.row.now in
    let catalog = subst (λ (C : Setup). IsCatalog C.schema) c.setup.ensures.setup c.rules-rules.ensures.catalog in
    subst (λ (C : Setup). HasNames C.schema r) (sym c.setup-2.ensures.setup)
    (has_names K.setup.schema K.features catalog c.setup.ensures.known.sound c.setup.ensures.known.attributes c.args.id r (sym c.row.ensures ∙ ap option_copied c.in-Some.is))
