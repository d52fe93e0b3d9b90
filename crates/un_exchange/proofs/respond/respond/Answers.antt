use Rattle.un_exchange.specs.declared.asked.Asked.TheVariants.{Command, Query, Past, Between}
use Rattle.un_exchange.proofs.Handling.{handled_memory, handled_page, handled_session}
use Rattle.un_turns.specs.Served.{answering}
use Rattle.un_exchange.proofs.respond.respond.Goals as goal

pub returns-in-Err-clause-handled : goal.returns-in-Err-clause-handled
returns-in-Err-clause-handled g c =
    handled_memory g.M.Machine.step g.J.BoardName.opening g.S.Answers.least (answering g.S.Answers.answer g.S.Answers.between) g.S.Service.asks g.S.Service.printing c.args.session.now c.args.inbox.now c.args.out.now.items

pub returns-in-Page-clause-handled : goal.returns-in-Page-clause-handled
returns-in-Page-clause-handled g c =
    handled_page g.M.Machine.step g.J.BoardName.opening g.S.Answers.least (answering g.S.Answers.answer g.S.Answers.between) g.S.Service.asks g.S.Service.printing c.args.session.now c.args.inbox.now c.args.out.now.items c.in-Page.page
    (rw (c.method.ensures, c.path.ensures, c.body.ensures, c.in-Page.is) at c.in-Ok.ensures)

pub returns-in-Command-clause-handled : goal.returns-in-Command-clause-handled
returns-in-Command-clause-handled g c =
    handled_session g.M.Machine.step g.J.BoardName.opening g.S.Answers.least (answering g.S.Answers.answer g.S.Answers.between) g.S.Service.asks g.S.Service.printing c.args.session.now c.ask_session.new.session c.args.inbox.now
    c.ask_session.new.out.items c.ask_session.result (Command c.in-Command.cmd)
    (rw (c.method.ensures, c.path.ensures, c.body.ensures, c.in-Command.is) at c.in-Ok.ensures) c.ask_session.ensures.handled

pub returns-in-Query-clause-handled : goal.returns-in-Query-clause-handled
returns-in-Query-clause-handled g c =
    handled_session g.M.Machine.step g.J.BoardName.opening g.S.Answers.least (answering g.S.Answers.answer g.S.Answers.between) g.S.Service.asks g.S.Service.printing c.args.session.now c.ask_session-in-Query.new.session c.args.inbox.now
    c.ask_session-in-Query.new.out.items c.ask_session-in-Query.result (Query c.in-Query.query)
    (rw (c.method.ensures, c.path.ensures, c.body.ensures, c.in-Query.is) at c.in-Ok.ensures) c.ask_session-in-Query.ensures.handled

pub returns-in-Past-clause-handled : goal.returns-in-Past-clause-handled
returns-in-Past-clause-handled g c =
    handled_session g.M.Machine.step g.J.BoardName.opening g.S.Answers.least (answering g.S.Answers.answer g.S.Answers.between) g.S.Service.asks g.S.Service.printing c.args.session.now c.ask_session-in-Past.new.session c.args.inbox.now
    c.ask_session-in-Past.new.out.items c.ask_session-in-Past.result (Past c.in-Past.at c.in-Past.query)
    (rw (c.method.ensures, c.path.ensures, c.body.ensures, c.in-Past.is) at c.in-Ok.ensures) c.ask_session-in-Past.ensures.handled

pub returns-in-Between-clause-handled : goal.returns-in-Between-clause-handled
returns-in-Between-clause-handled g c =
    handled_session g.M.Machine.step g.J.BoardName.opening g.S.Answers.least (answering g.S.Answers.answer g.S.Answers.between) g.S.Service.asks g.S.Service.printing c.args.session.now c.ask_session-in-Between.new.session c.args.inbox.now
    c.ask_session-in-Between.new.out.items c.ask_session-in-Between.result (Between c.in-Between.since c.in-Between.upto c.in-Between.query)
    (rw (c.method.ensures, c.path.ensures, c.body.ensures, c.in-Between.is) at c.in-Ok.ensures) c.ask_session-in-Between.ensures.handled
