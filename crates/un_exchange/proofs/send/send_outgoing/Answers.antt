use Rattle.un_exchange.proofs.send.send_outgoing.Goals as goal

pub returns-in-Memory-clause-writes : goal.returns-in-Memory-clause-writes
returns-in-Memory-clause-writes g c = rw c.in-Memory.is c.send_then-in-Memory.ensures.writes
