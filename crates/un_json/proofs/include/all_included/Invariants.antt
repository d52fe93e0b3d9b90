use Rattle.std.proofs.Common.{drop}
use Rattle.un_json.proofs.Inclusions.{IsAdding}
use Rattle.un_json.proofs.include.all_included.Given as goal

abbrev pub invariant-loop-word : goal.invariant-loop-word
invariant-loop-word l = IsAdding l.include (drop l.word-index l.words) l.words
