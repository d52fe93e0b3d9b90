use Rattle.un_turns.proofs.Losing.{past_lost}
use Rattle.un_turns.specs.Served.{answering}
use Rattle.un_turns.proofs.laws.past_answers_may_be_lost.Goals as goal

pub returns : goal.returns
returns g c = past_lost g.M.Machine.step g.J.BoardName.opening g.A.Answers.least (answering g.A.Answers.answer g.A.Answers.between)
