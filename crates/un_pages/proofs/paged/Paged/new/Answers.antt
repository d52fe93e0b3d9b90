use Rattle.un_pages.proofs.Nodes.{counted_none}
use Rattle.un_pages.proofs.paged.Paged.new.Goals as goal

pub invariant_of-result : goal.invariant_of-result
invariant_of-result g c = counted_none g.K.Ord.cmp
