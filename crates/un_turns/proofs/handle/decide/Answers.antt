use Rattle.std.proofs.Common.{refl}
use Rattle.un_turns.specs.Turns.{Decided, Undecided}
use Rattle.un_turns.proofs.handle.decide.Goals as goal

pub returns-in-Ok : goal.returns-in-Ok
returns-in-Ok g c = record { turn = Decided c.args.cmd c.in-Ok.receipt; is = c.in-Ok.ensures.receipt; responds = (refl, c.receipt_response.ensures) }

pub returns-in-Err : goal.returns-in-Err
returns-in-Err g c = record { turn = Undecided c.args.cmd c.in-Err.fault; is = (c.in-Err.ensures.fault, c.submit.ensures.seen); responds = (refl, c.fault_response.ensures) }
