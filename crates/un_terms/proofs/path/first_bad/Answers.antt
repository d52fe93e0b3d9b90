use Rattle.std.proofs.Common.{◌+◌, length, drop, get_or, arith}
use Rattle.un_terms.proofs.PathLemmas.{ends_at, ends_within}
use Rattle.un_terms.proofs.path.first_bad.Goals as goal

pub between-requires-clause-rising : goal.between-requires-clause-rising
between-requires-clause-rising c =
    (ends_at c.loop-i.from (length c.args.pairs.now) c.args.ends.now c.loop-i.i 0 (omega arith) c.loop-i.invariant.ends).0

pub between-requires-clause-within : goal.between-requires-clause-within
between-requires-clause-within c =
    let ends = c.args.ends.now in
    let count = length c.args.pairs.now in
    let i = c.loop-i.i in
    ends_within (get_or ends i 0) count (drop (i + 1) ends) (ends_at c.loop-i.from count ends i 0 (omega arith) c.loop-i.invariant.ends).1
