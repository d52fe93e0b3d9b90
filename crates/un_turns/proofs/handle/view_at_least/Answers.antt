use Rattle.un_turns.proofs.Reading.{read_older, answered_later, unanswered_later}
use Rattle.un_turns.proofs.handle.view_at_least.Goals as goal

pub returns-clause-view : goal.returns-clause-view
returns-clause-view g c =
    let older = read_older g.M.Machine.step g.J.BoardName.opening c.args.session.now c.read.new.self c.read_at_least.new.session c.args.least c.in-Ok.view c.in-Ok.ensures.version c.in-Ok.ensures.state c.in-Ok.ensures.seen c.in-Ok.ensures.kept c.if-view-least.false in
    answered_later g.M.Machine.step g.J.BoardName.opening c.args.session.now c.read.new.self c.read_at_least.new.session c.args.least c.in-Ok.view c.read_at_least.result older
    c.read_at_least.ensures.version c.read_at_least.ensures.state c.read_at_least.ensures.kept c.read_at_least.ensures.seen

pub returns-clause-fault : goal.returns-clause-fault
returns-clause-fault g c =
    let older = read_older g.M.Machine.step g.J.BoardName.opening c.args.session.now c.read.new.self c.read_at_least.new.session c.args.least c.in-Ok.view c.in-Ok.ensures.version c.in-Ok.ensures.state c.in-Ok.ensures.seen c.in-Ok.ensures.kept c.if-view-least.false in
    unanswered_later g.M.Machine.step g.J.BoardName.opening c.args.session.now c.read.new.self c.read_at_least.new.session c.args.least c.in-Ok.view c.read_at_least.result older
    c.read_at_least.ensures.fault c.read_at_least.ensures.seen
