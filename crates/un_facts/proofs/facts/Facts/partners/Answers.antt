use Rattle.std.proofs.Common.{nat_cmp, flat_map, ap, ◌∙◌}
use Rattle.un_defs.specs.Orders.{rising}
use Rattle.un_defs.specs.Dirtied.{partners}
use Rattle.std.specs.Arc.{arc_value}
use Rattle.un_facts.specs.Known.{Known, features_of}
use Rattle.un_facts.specs.Partners.{takes, taken_end}
use Rattle.un_facts.proofs.Partners.{taken_ends, partners_are}
use Rattle.un_facts.proofs.facts.Facts.partners.Goals as goal

pub returns : goal.returns
returns c =
    c.in_ok-ids-2.ensures
    ∙ ap (rising nat_cmp) (c.deref-2.ensures.value ∙ c.in_ok-ids.ensures
    ∙ ap (flat_map (taken_end c.args.which c.args.id)) (c.deref.ensures.value ∙ c.in_ok-found.ensures) ∙ taken_ends c.args.which c.args.id _)
    ∙ partners_are (features_of (arc_value c.parts.result.now.frame).rules c.parts.result.now.rows c.parts.result.now.assocs) c.parts.ensures.known.sound.associations (takes c.args.which) c.args.id
    ∙ ap (λ (K : Known). partners K.features (takes c.args.which) c.args.id) c.parts.ensures.value
