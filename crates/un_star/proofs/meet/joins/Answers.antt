use Rattle.std.proofs.Common.{◌∙◌, sym, ap}
use Rattle.std.specs.List.{list_any}
use Rattle.un_schema.specs.Rules.{edge}
use Rattle.un_star.specs.Meet.{passes_group}
use Rattle.un_star.proofs.Grouping.{joins_by_groups}
use Rattle.un_star.proofs.meet.joins.Goals as goal

pub returns-else-allows_edge : goal.returns-else-allows_edge
returns-else-allows_edge c =
    let S = c.args.schema.now in
    let j = c.args.joint.now in
    let e = c.args.end.now in
    let m = c.args.meeting.now in
    c.passes_any.ensures ∙ ap (list_any (passes_group S.rules j e)) c.as_slice.ensures.value
    ∙ joins_by_groups S.rules j m.ends.items e m.groups.items (sym c.has_chosen.ensures ∙ c.if-has_chosen.true)
    (ap (λ t. edge S.rules j.kind t e.kind) (sym c.chosen.ensures) ∙ sym c.allows_edge.ensures ∙ c.if-allows_edge.false) c.requires
