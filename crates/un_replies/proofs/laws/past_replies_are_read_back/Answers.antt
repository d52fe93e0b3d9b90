use Rattle.un_replies.proofs.CommandTexts.{past_stands_around}
use Rattle.un_replies.proofs.laws.past_replies_are_read_back.Goals as goal

pub returns-clause-around : goal.returns-clause-around
returns-clause-around c = past_stands_around
