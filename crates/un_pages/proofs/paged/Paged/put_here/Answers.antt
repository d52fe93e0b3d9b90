use Rattle.std.specs.Arc.{arc_value}
use Rattle.un_pages.specs.Pairs.{all_of}
use Rattle.un_pages.proofs.Changes.{count_added, count_kept}
use Rattle.un_pages.proofs.paged.Paged.put_here.Goals as goal

pub invariant_of-self-in-Added : goal.invariant_of-self-in-Added
invariant_of-self-in-Added g c = count_added g.met.K.Ord.total c.args.key (all_of c.self.inside.root) (all_of c.put_in_root.new.root) c.self.inside.len c.self.invariant (arc_value c.args.value.now) (rw c.in-Added.is at c.in_ok-put.ensures.put)

pub invariant_of-self-in_default : goal.invariant_of-self-in_default
invariant_of-self-in_default g c = count_kept g.met.K.Ord.total c.args.key (all_of c.self.inside.root) (all_of c.put_in_root.new.root) c.self.inside.len c.self.invariant (arc_value c.args.value.now) c.in_ok-put.put c.in_default.not-Added c.in_ok-put.ensures.put
