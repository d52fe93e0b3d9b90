use Rattle.std.proofs.Common.{◌≡◌, ◌++◌, take}
use Rattle.un_pages.specs.Pairs.{pairs_of}
use Rattle.un_pages.proofs.row.copy_to.Given as goal

abbrev pub invariant-loop-key : goal.invariant-loop-key
invariant-loop-key g l = pairs_of l.items.items ≡ pairs_of l.initial.items.items ++ pairs_of (take l.key-index l.from)
