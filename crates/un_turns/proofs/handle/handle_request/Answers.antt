use Rattle.std.proofs.Common.{inl, refl}
use Rattle.un_turns.specs.declared.request.Request.TheVariants.{Command, Query}
use Rattle.un_turns.specs.Turns.{Passed}
use Rattle.un_turns.proofs.Recalling.{kept_longer, served_seen}
use Rattle.un_turns.specs.Served.{answering}
use Rattle.un_turns.proofs.handle.handle_request.Goals as goal

pub returns-in-Other-clause-served : goal.returns-in-Other-clause-served
returns-in-Other-clause-served g c = record { turn = Passed; is = refl; responds = inl (c.in-Other.is, refl) }

pub returns-in-Command-clause-kept : goal.returns-in-Command-clause-kept
returns-in-Command-clause-kept g c =
    let s = c.args.session.now in
    let t = c.decide.new.session in
    let seen = served_seen g.M.Machine.step g.J.BoardName.opening g.A.Answers.least (answering g.A.Answers.answer g.A.Answers.between) s t (Command c.in-Command.cmd) c.decide.result c.decide.ensures in
    kept_longer g.M.Machine.step g.J.BoardName.opening c.stands_for_longer.ensures c.args.kept.now s.seen t.seen seen c.requires

pub returns-in-Query-clause-kept : goal.returns-in-Query-clause-kept
returns-in-Query-clause-kept g c =
    let s = c.args.session.now in
    let t = c.answer.new.session in
    let seen = served_seen g.M.Machine.step g.J.BoardName.opening g.A.Answers.least (answering g.A.Answers.answer g.A.Answers.between) s t (Query c.in-Query.query) c.answer.result c.answer.ensures in
    kept_longer g.M.Machine.step g.J.BoardName.opening c.stands_for_longer.ensures c.args.kept.now s.seen t.seen seen c.requires
