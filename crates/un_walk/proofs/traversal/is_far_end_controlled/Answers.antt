use Rattle.std.proofs.Common.{sym, ◌∙◌}
use Rattle.un_defs.proofs.Unique.{point_same}
use Rattle.un_walk.proofs.LinkTests.{controls_here}
use Rattle.un_walk.proofs.traversal.is_far_end_controlled.Goals as goal

pub returns-then-is_same_point-clause-controlled : goal.returns-then-is_same_point-clause-controlled
returns-then-is_same_point-clause-controlled g c =
    c.is_controlled.ensures ∙ controls_here (g.G.Ground.stars_and_areas c.args.over.now) c.args.tier c.args.to c.args.place.now.node.at c.args.place.now.star.now c.requires
    (point_same c.args.to.at c.args.place.now.node.at (sym c.is_same_point.ensures ∙ c.if-is_same_point.true))
