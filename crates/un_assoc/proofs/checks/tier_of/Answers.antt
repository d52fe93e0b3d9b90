use Rattle.std.proofs.Common.{◌∙◌, ap}
use Rattle.un_tiers.specs.Lists.{tier_named}
use Rattle.un_assoc.proofs.RowKinds.{tier_place}
use Rattle.un_assoc.proofs.checks.tier_of.Goals as goal

pub returns : goal.returns
returns c = c.find.ensures ∙ ap (tier_named c.args.tiers.now) c.text.ensures.text ∙ tier_place c.args.name.now c.args.tiers.now
