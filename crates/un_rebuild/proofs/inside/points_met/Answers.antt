use Rattle.std.proofs.Common.{subst}
use Rattle.un_rebuild.specs.Inside.{AreWithin}
use Rattle.un_rebuild.proofs.inside.points_met.Goals as goal

pub points_inside-requires : goal.points_inside-requires
points_inside-requires c = subst (λ areas. AreWithin areas c.args.extent) c.requires (c.are_within.ensures c.if-are_within.true)
