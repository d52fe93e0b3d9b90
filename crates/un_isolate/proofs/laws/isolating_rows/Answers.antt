use Rattle.un_isolate.proofs.IsolatingRows.{isolating_rows}
use Rattle.un_isolate.proofs.laws.isolating_rows.Goals as goal

pub returns : goal.returns
returns c = isolating_rows
