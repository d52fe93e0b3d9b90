use Rattle.std.proofs.Common.{◌≡◌}
use Rattle.un_subnet.specs.Outcome.{is_row_of}
use Rattle.un_subnet.specs.RowIndex.{found_row}
use Rattle.un_subnet.proofs.Numbered.{found_in}
use Rattle.un_subnet.proofs.Runs.{run_at}
use Rattle.un_subnet.proofs.stored.found_row.Given as goal

-- the first row of the subnetwork is the first under the numbers to come in the run
abbrev pub invariant-loop-key : goal.invariant-loop-key
invariant-loop-key l = found_in (is_row_of l.tier l.subnet) l.rows (run_at l.subject l.key-iterator) ≡ found_row l.rows l.tier l.subnet
