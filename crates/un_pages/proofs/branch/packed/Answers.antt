use Rattle.std.proofs.Common.{◌/◌, arith}
use Rattle.un_pages.proofs.Nodes.{branch_take, branch_drop, flat_split}
use Rattle.un_pages.proofs.branch.packed.Goals as goal

pub invariant_of-low : goal.invariant_of-low
invariant_of-low g c = rw c.in_ok-low.ensures.prefix (branch_take g.met.K.Ord.total g.T.Level.pairs c.args.row (c.len-len.result / 2) c.requires.grown (omega arith) (omega arith) (omega arith))

pub invariant_of-high : goal.invariant_of-high
invariant_of-high g c = rw c.in_ok-low.ensures.back (branch_drop g.met.K.Ord.total g.T.Level.pairs c.args.row (c.len-len.result / 2) c.requires.grown (omega arith) (omega arith))

pub returns : goal.returns
returns g c = rw (c.in_ok-low.ensures.prefix, c.in_ok-low.ensures.back) (flat_split g.T.Level.pairs c.args.row (c.len-len.result / 2))
