use Rattle.std.proofs.Common.{◌≡◌, length}
use Rattle.un_subnet.specs.RowIndex.{IsIndex, others_in}
use Rattle.un_subnet.proofs.stored.take_rows_of.Given as goal

-- the others are there still
abbrev pub invariant-loop-number : goal.invariant-loop-number
invariant-loop-number l = record {
  index : IsIndex l.rows l.keys;
  others : others_in l.rows l.tier l.subnet ≡ others_in l.fn.rows l.tier l.subnet;
}

abbrev pub decreases-loop-number : goal.decreases-loop-number
decreases-loop-number l = length l.rows
