use Rattle.un_turns.proofs.Prepared.{read_first, read_first_fault}
use Rattle.un_turns.proofs.laws.reads_may_come_first.Goals as goal

pub returns-clause-receipt : goal.returns-clause-receipt
returns-clause-receipt g c = read_first g.M.Machine.step g.J.BoardName.opening

pub returns-clause-fault : goal.returns-clause-fault
returns-clause-fault g c = read_first_fault g.M.Machine.step g.J.BoardName.opening
