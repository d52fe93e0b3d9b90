use Rattle.std.proofs.Common.{◌≡◌, ◌++◌}
use Rattle.un_subnet.specs.Outcome.{is_row_of}
use Rattle.un_subnet.specs.RowIndex.{numbers_with}
use Rattle.un_subnet.proofs.Numbered.{named_in}
use Rattle.un_subnet.proofs.Runs.{run_at}
use Rattle.un_subnet.proofs.marking.push_rows_of.Given as goal

-- those so far, with the rows of the subnetwork under the numbers to come in the run, are all
abbrev pub invariant-loop-key : goal.invariant-loop-key
invariant-loop-key l =
    l.numbers.items ++ named_in (is_row_of l.tier l.subnet) l.rows (run_at l.subject l.key-iterator) ≡ l.fn.numbers.items ++ numbers_with (is_row_of l.tier l.subnet) l.rows
