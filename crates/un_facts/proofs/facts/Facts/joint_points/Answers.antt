use Rattle.std.proofs.Common.{◌∙◌, ap, sym, subst, filter, All}
use Rattle.un_geom.specs.Places.{IsPlace}
use Rattle.un_defs.specs.Dirtied.{has_joint_of}
use Rattle.un_store.specs.Keyed.{line_points}
use Rattle.un_facts.specs.Known.{Known}
use Rattle.un_facts.proofs.RulePoints.{all_left, joint_points_are}
use Rattle.un_facts.proofs.facts.Facts.joint_points.Goals as goal

pub returns-clause-points : goal.returns-clause-points
returns-clause-points c =
    let F = c.args.self.now.features in
    c.in_ok-points.ensures
    ∙ ap (filter (has_joint_of F c.args.junction)) (c.deref.ensures.value ∙ c.in_ok-vertices.ensures.points
    ∙ ap (λ (K : Known). line_points c.args.line K.features.rows) c.parts.ensures.value)
    ∙ joint_points_are F c.args.junction c.args.line

pub returns-clause-placed : goal.returns-clause-placed
returns-clause-placed c =
    subst (All IsPlace) (sym c.in_ok-points.ensures)
    (all_left IsPlace (has_joint_of c.args.self.now.features c.args.junction) c.deref.result.now (subst (All IsPlace) (sym c.deref.ensures.value) c.in_ok-vertices.ensures.placed))
