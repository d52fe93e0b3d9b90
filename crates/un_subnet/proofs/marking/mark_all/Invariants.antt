use Rattle.std.proofs.Common.{◌≡◌, take}
use Rattle.un_subnet.specs.RowIndex.{made_in, dirty}
use Rattle.un_subnet.proofs.marking.mark_all.Given as goal

-- those with the numbers so far are dirty
abbrev pub invariant-loop-number : goal.invariant-loop-number
invariant-loop-number l = l.rows ≡ made_in dirty (take l.number-index l.numbers) l.fn.rows
