use Rattle.std.proofs.Common.{◌≡◌, ◌++◌}
use Rattle.un_subnet.specs.RowIndex.{numbers_at}
use Rattle.un_subnet.proofs.Runs.{run_at}
use Rattle.un_subnet.proofs.row_index.push_numbers.Given as goal

-- those so far, with those to come in the run, are all
abbrev pub invariant-loop-key : goal.invariant-loop-key
invariant-loop-key l = l.numbers.items ++ run_at l.subject l.key-iterator ≡ l.fn.numbers.items ++ numbers_at l.keys l.subject
