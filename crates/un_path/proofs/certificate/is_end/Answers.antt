use Rattle.std.proofs.Common.{rules, arith, ◌<◌, length, refl}
use Rattle.std.proofs.lemmas.Option.{slice_get_within}
use Rattle.un_path.proofs.certificate.is_end.Goals as goal

pub bounds-costs-place : goal.bounds-costs-place
bounds-costs-place c = omega (arith, slice_get_within c.args.nodes.now c.in-Some.place c.args.to ((c.in-Some.ensures c.in-Some.place).0 refl), c.requires.count)

pub offset_bounds-costs-place : goal.offset_bounds-costs-place
offset_bounds-costs-place c =
    let below : c.in-Some.place < length c.args.costs.now = omega (arith, slice_get_within c.args.nodes.now c.in-Some.place c.args.to ((c.in-Some.ensures c.in-Some.place).0 refl), c.requires.count) in
    search rules
