use Rattle.std.proofs.Common.{ap}
use Rattle.un_publish.specs.Models.{SessionModel}
use Rattle.un_publish.proofs.Prefixes.{prefix_self}
use Rattle.un_desk.proofs.desk.Desk.meet.Goals as goal

pub returns-in_err-teach-clause-seen_by_other : goal.returns-in_err-teach-clause-seen_by_other
returns-in_err-teach-clause-seen_by_other g c =
    let seen = λ (s : SessionModel g.row.M.Denot g.row.M-Cmd.Denot g.row.M-Reply.Denot g.row.M-Hint.Denot g.row.M-Mark.Denot). s.seen in
    rw (ap seen c.count_wait-2.ensures) (prefix_self c.args.b.now.seen)
