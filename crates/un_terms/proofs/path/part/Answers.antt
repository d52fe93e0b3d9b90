use Rattle.std.proofs.Common.{length}
use Rattle.un_terms.proofs.PathLemmas.{bounds_at, slice_get-paths_of}
use Rattle.un_terms.proofs.path.part.Goals as goal

pub between-requires-clause-rising : goal.between-requires-clause-rising
between-requires-clause-rising c =
    rw c.start-from.ensures (bounds_at 0 (length c.args.pairs.now) c.args.ends.now c.args.path c.requires.ends c.requires.path).0

pub between-requires-clause-within : goal.between-requires-clause-within
between-requires-clause-within c = (bounds_at 0 (length c.args.pairs.now) c.args.ends.now c.args.path c.requires.ends c.requires.path).1

pub returns : goal.returns
returns c = rw (c.between.ensures, c.start-from.ensures) (slice_get-paths_of 0 c.args.pairs.now c.args.ends.now c.args.path c.requires.path)
