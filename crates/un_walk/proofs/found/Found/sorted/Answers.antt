use Rattle.un_walk.specs.Found.{seens}
use Rattle.un_walk.proofs.Entered.{moved_entries}
use Rattle.un_walk.proofs.Once.{sorted_are}
use Rattle.un_walk.proofs.found.Found.sorted.Goals as goal

pub returns-clause-nodes : goal.returns-clause-nodes
returns-clause-nodes g c = sorted_are c.args.self.now c.in_ok-seen.seen.items c.in_ok-seen.ensures.permutation c.requires.distinct c.in_ok-seen.ensures.sorted

pub returns-clause-entries : goal.returns-clause-entries
returns-clause-entries g c =
    moved_entries (g.G.Ground.stars_and_areas c.args._over.now) (seens c.args.self.now) c.in_ok-seen.seen.items c.in_ok-seen.ensures.permutation c.requires.entries
