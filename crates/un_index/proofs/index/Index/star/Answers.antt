use Rattle.std.proofs.Common.{◌∙◌, ap, subst}
use Rattle.un_index.specs.Kept.{AreStars}
use Rattle.un_points.specs.PointMaps.{value_at}
use Rattle.un_index.proofs.Stars.{none_where_empty}
use Rattle.un_index.proofs.index.Index.star.Goals as goal

pub returns-clause-empty : goal.returns-clause-empty
returns-clause-empty c = none_where_empty c.args.self.now c.args.p c.get.result (subst AreStars c.self.view_is c.self.invariant) (c.get.ensures ∙ ap (value_at c.args.p) c.self.view_is)
