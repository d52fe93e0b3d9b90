use Rattle.un_isolate.proofs.IsolatingRows.{clear_starts}
use Rattle.un_isolate.proofs.laws.clear_starts.Goals as goal

pub returns : goal.returns
returns c = clear_starts
