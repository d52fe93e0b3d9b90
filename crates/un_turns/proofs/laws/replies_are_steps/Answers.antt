use Rattle.un_turns.proofs.Replying.{replies_are_steps}
use Rattle.un_turns.specs.Served.{answering}
use Rattle.un_turns.proofs.laws.replies_are_steps.Goals as goal

pub returns : goal.returns
returns g c = replies_are_steps g.M.Machine.step g.J.BoardName.opening g.A.Answers.least (answering g.A.Answers.answer g.A.Answers.between)
