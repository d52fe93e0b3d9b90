use Rattle.std.proofs.Common.{length}
use Rattle.un_schema.proofs.kinds.+cats_word.Given as goal

abbrev pub decreases-cats_word : goal.decreases-cats_word
decreases-cats_word l = length l.categories.now
