use Rattle.std.proofs.Common.{◌∙◌, sym, ap, flat_map, option_to_list, arith}
use Rattle.std.proofs.lemmas.List.{take_all}
use Rattle.un_defs.proofs.Members.{among_from_contains}
use Rattle.un_star.specs.declared.meet.Standing.{Standing}
use Rattle.un_star.specs.Meet.{end_here}
use Rattle.un_star.proofs.Standing.{row_of_standing, ends_are}
use Rattle.un_star.proofs.meet.ends_here.Goals as goal

pub end_here-requires : goal.end_here-requires
end_here-requires g c =
    row_of_standing (g.R.Rows.features c.args.rows.now) c.args.p c.args.standing.now c.requires c.one-item.result
    (among_from_contains c.args.standing.now c.one-item.result (c.loop-one.one-index, c.loop-one-test.true, sym c.one-item.is))

pub returns : goal.returns
returns g c =
    let S = g.R.Rows.catalog c.args.rows.now in
    let F = g.R.Rows.features c.args.rows.now in
    c.loop-one.invariant
    ∙ ap (flat_map (λ (s : Standing). option_to_list (end_here S F c.args.p s.port))) (take_all c.loop-one.one-index c.args.standing.now (omega arith))
    ∙ ends_are F c.args.p c.args.standing.now c.requires S
