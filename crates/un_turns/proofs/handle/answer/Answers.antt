use Rattle.std.proofs.Common.{refl}
use Rattle.un_desk.specs.declared.desk.ViewFault.TheVariants.{Memory as NoMemory}
use Rattle.un_turns.specs.Turns.{Answered, Unanswered}
use Rattle.un_turns.proofs.Reading.{answered_no_more}
use Rattle.un_turns.proofs.handle.answer.Goals as goal

pub returns-in-Err : goal.returns-in-Err
returns-in-Err g c = record { turn = Unanswered c.args.query c.in-Err.fault; is = rw c.least.ensures at c.in-Err.ensures.fault; responds = (refl, c.view_response.ensures) }

pub returns-in-Ok-answer : goal.returns-in-Ok-answer
returns-in-Ok-answer g c = record { turn = Answered c.args.query c.in-Ok.view; is = rw c.least.ensures at c.in-Ok.ensures.view; responds = (refl, cc (c.in-Ok-answer.ensures, c.deref.ensures)) }

pub returns : goal.returns
returns g c = record {
  turn = Unanswered c.args.query NoMemory;
  is = answered_no_more g.M.Machine.step g.J.BoardName.opening c.args.session.now c.view_at_least.new.session (g.A.Answers.least c.args.query) c.in-Ok.view (rw c.least.ensures at c.in-Ok.ensures.view);
  responds = (refl, refl);
}
