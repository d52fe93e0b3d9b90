use Rattle.std.specs.Arc.{arc_value}
use Rattle.un_pages.proofs.Nodes.{counted_insert}
use Rattle.un_pages.proofs.paged.Paged.with_shared.Goals as goal

pub invariant_of-result : goal.invariant_of-result
invariant_of-result g c = rw c.in_ok-new.ensures.ok (counted_insert g.met.K.Ord.total c.args.key c.args.self.now _ (arc_value c.args.value) _ c.len_with.ensures.ordered c.in_ok-root.ensures c.in_ok-len.ensures.len)
