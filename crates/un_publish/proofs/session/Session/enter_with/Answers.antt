use Rattle.std.proofs.Common.{ap}
use Rattle.left_right.specs.Sides.{view}
use Rattle.un_publish.specs.Models.{SessionModel}
use Rattle.un_publish.proofs.Prefixes.{prefix_trans}
use Rattle.un_publish.proofs.session.Session.enter_with.Goals as goal

pub returns-else-begins-clause-entered : goal.returns-else-begins-clause-entered
returns-else-begins-clause-entered g c =
    let seen = λ (s : SessionModel g.row.M.Denot g.row.M-Cmd.Denot g.row.M-Reply.Denot g.row.M-Hint.Denot g.row.M-Mark.Denot). s.seen in
    rw (← ap seen c.self.view_is)
    (prefix_trans (view c.args.reader.place).told c.in-Some.field-0.prefix c.self.inside.prefix c.in-Some.ensures.1.told c.if-begins.ensures.0)
