use Rattle.std.proofs.Common.{◌≡◌, drop, fold}
use Rattle.un_subnet.specs.RowIndex.{mixed, name_hash}
use Rattle.un_subnet.proofs.row_index.name_hash.Given as goal

abbrev pub invariant-loop-byte : goal.invariant-loop-byte
invariant-loop-byte l = fold mixed l.hash (drop l.byte-index l.byte-items) ≡ name_hash l.tier l.subnet
