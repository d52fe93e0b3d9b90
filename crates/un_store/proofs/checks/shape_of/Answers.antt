use Rattle.std.proofs.Common.{◌≡◌, Some, ap, rules}
use Rattle.std.specs.Option.{option_map}
use Rattle.un_geom.specs.Places.{bad_place}
use Rattle.un_defs.specs.declared.refusal.Refusal.TheVariants as refusal
use Rattle.un_defs.specs.Sound.{least_points, most_points}
use Rattle.un_store.proofs.checks.shape_of.Goals as goal

pub returns-in-Err-BadShape-clause-bad : goal.returns-in-Err-BadShape-clause-bad
returns-in-Err-BadShape-clause-bad c = λ _.
    let found : bad_place (least_points c.args.class) (most_points c.args.class) c.args.points.now ≡ Some c.in-Err-BadShape.place =
    rw (← c.counts-least.ensures.least, ← c.counts-least.ensures.most, ← c.as_slice.ensures) ((c.new.ensures.bad c.in-Err-BadShape.place).0 (search rules)) in
    ap (option_map (λ place. refusal.BadShape place)) found
