use Rattle.std.proofs.Common.{◌∙◌, sym, ap, subst, map, arith}
use Rattle.std.proofs.lemmas.List.{take_all}
use Rattle.un_defs.proofs.Rising.{Among}
use Rattle.un_defs.proofs.Members.{among_from_contains}
use Rattle.un_star.specs.declared.meet.Standing.{Standing}
use Rattle.un_star.specs.Entries.{spot_here}
use Rattle.un_star.proofs.ListSteps.{map-step}
use Rattle.un_star.proofs.Standing.{row_of_standing, entries_are}
use Rattle.un_star.proofs.entries.spots_here.Goals as goal

pub spot-requires-clause-row : goal.spot-requires-clause-row
spot-requires-clause-row g c =
    row_of_standing (g.R.Rows.features c.args.rows.now) c.args.meeting.now.at c.args.meeting.now.standing.items c.requires.all_standing c.one-item.result
    (subst (λ l. Among l c.one-item.result) c.deref-one-items.ensures.value
    (among_from_contains c.deref-one-items.result.now c.one-item.result (c.loop-one.one-index, c.loop-one-test.true, sym c.one-item.is)))

pub loop-one-preserved : goal.loop-one-preserved
loop-one-preserved g c =
    let S = g.R.Rows.catalog c.args.rows.now in
    let F = g.R.Rows.features c.args.rows.now in
    map-step (λ (s : Standing). spot_here S F c.args.meeting.now.at s.port s.row.now) c.deref-one-items.result.now c.loop-one.one-index c.one-item.result
    c.in_ok-spot.spot c.loop-one.spots.items c.push.new.self.items c.loop-one-test.true c.one-item.is c.loop-one.invariant c.in_ok-push.ensures.items c.in_ok-spot.ensures

pub returns : goal.returns
returns g c =
    let S = g.R.Rows.catalog c.args.rows.now in
    let F = g.R.Rows.features c.args.rows.now in
    c.loop-one.invariant
    ∙ ap (map (λ (s : Standing). spot_here S F c.args.meeting.now.at s.port s.row.now)) (take_all c.loop-one.one-index c.deref-one-items.result.now (omega arith) ∙ c.deref-one-items.ensures.value)
    ∙ entries_are F c.args.meeting.now.at c.args.meeting.now.standing.items c.requires.all_standing S
