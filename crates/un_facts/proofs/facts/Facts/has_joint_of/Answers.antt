use Rattle.std.proofs.Common.{◌∙◌, ap, subst}
use Rattle.std.specs.List.{list_any}
use Rattle.un_facts.specs.Standing.{IsKnown}
use Rattle.un_facts.specs.Ruling.{is_joint_of}
use Rattle.un_facts.proofs.Joints.{joints_by_ports}
use Rattle.un_facts.proofs.facts.Facts.has_joint_of.Goals as goal

pub returns : goal.returns
returns c =
    let K = c.args.self.now in
    c.is_joint_among.ensures ∙ ap (list_any (λ q. is_joint_of K.features c.args.kind q.feature)) c.ports_at.ensures
    ∙ joints_by_ports K.setup.schema K.features (subst IsKnown c.parts-parts.ensures.value c.parts-parts.ensures.known).sound c.args.kind c.args.p
