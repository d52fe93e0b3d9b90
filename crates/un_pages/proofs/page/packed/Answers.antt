use Rattle.std.proofs.Common.{◌/◌, arith}
use Rattle.un_pages.proofs.Nodes.{page_take, page_drop}
use Rattle.un_pages.proofs.page.packed.Goals as goal

pub invariant_of-result-2 : goal.invariant_of-result-2
invariant_of-result-2 g c = rw c.in_ok-low.ensures.back (page_drop g.met.K.Ord.total c.args.row (c.len-len.result / 2) c.requires.ordered (omega arith) (omega arith))

pub invariant_of-result-3 : goal.invariant_of-result-3
invariant_of-result-3 g c = rw c.in_ok-low.ensures.prefix (page_take g.met.K.Ord.total c.args.row (c.len-len.result / 2) c.requires.ordered (omega arith) (omega arith) (omega arith))
