use Rattle.std.proofs.Common.{◌∙◌, ap, filter, flat_map}
use Rattle.un_assoc.specs.Links.{is_of_sort}
use Rattle.un_facts.specs.Known.{Known}
use Rattle.un_facts.specs.Ruling.{points_between}
use Rattle.un_facts.proofs.RulePoints.{points_between_are}
use Rattle.un_facts.proofs.facts.Facts.points_between.Goals as goal

pub returns-clause-points : goal.returns-clause-points
returns-clause-points c =
    let F = c.args.self.now.features in
    c.in_ok-points.ensures.points
    ∙ ap (flat_map (points_between F c.args.sort c.args.first c.args.second)) (c.deref.ensures.value ∙ c.in_ok-found.ensures
    ∙ ap (λ (K : Known). filter (is_of_sort c.args.sort) K.features.associations) c.parts.ensures.value)
    ∙ points_between_are F c.args.sort c.args.first c.args.second
