use Rattle.std.proofs.Common.{subst}
use Rattle.un_rebuild.specs.Gathered.{HaveSame}
use Rattle.un_rebuild.proofs.Thinned.{same_once, rising_once}
use Rattle.un_rebuild.proofs.gathered.Gathered.thin.Goals as goal

pub returns-clause-same : goal.returns-clause-same
returns-clause-same c = subst (λ before. HaveSame before c.dedup.new.self.items) c.self.view_is
    (same_once c.self.inside.points.items c.sort_unstable.new.self.items c.dedup.new.self.items c.dedup.ensures.filtered c.sort_unstable.ensures.permutation)

pub returns-clause-sorted : goal.returns-clause-sorted
returns-clause-sorted c = rising_once c.self.inside.points.items c.sort_unstable.new.self.items c.dedup.new.self.items c.dedup.ensures.filtered c.sort_unstable.ensures.sorted
