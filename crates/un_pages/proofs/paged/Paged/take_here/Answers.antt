use Rattle.un_pages.specs.Pairs.{all_of}
use Rattle.un_pages.proofs.Changes.{count_removed}
use Rattle.un_pages.proofs.paged.Paged.take_here.Goals as goal

pub invariant_of-self-in-Removed : goal.invariant_of-self-in-Removed
invariant_of-self-in-Removed g c = count_removed g.met.K.Ord.total c.args.key.now (all_of c.self.inside.root) (all_of c.take_from_root.new.root) c.self.inside.len c.self.invariant (rw c.in-Removed.is at c.in_ok-taken.ensures.taken)

pub returns-in-Removed : goal.returns-in-Removed
returns-in-Removed g c = record { taken = rw (← c.self.view_is) c.in_ok-taken.ensures.taken; err = tt }
