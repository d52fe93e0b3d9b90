use Rattle.std.proofs.Common.{rules}
use Rattle.un_subnet.specs.RowIndex.{mixed}
use Rattle.un_subnet.proofs.row_index.mixed.Goals as goal

pub returns : goal.returns
unfolding mixed
returns c = search rules
