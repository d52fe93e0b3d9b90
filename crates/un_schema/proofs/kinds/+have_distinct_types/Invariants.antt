use Rattle.std.proofs.Common.{length}
use Rattle.un_schema.proofs.kinds.+have_distinct_types.Given as goal

abbrev pub decreases-have_distinct_types : goal.decreases-have_distinct_types
decreases-have_distinct_types l = length l.kinds.now
