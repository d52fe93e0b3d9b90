use Rattle.std.proofs.Common.{ap}
use mathlib.Core.List.{IsPrefix}
use Rattle.un_publish.specs.Models.{SessionModel}
use Rattle.un_desk.specs.Desks.{counted}
use Rattle.un_desk.proofs.Answering.{both_ok, each_err, commit_fault}
use Rattle.un_desk.proofs.desk.Desk.submit.Goals as goal

pub returns-clause-receipt : goal.returns-clause-receipt
returns-clause-receipt g c =
    let waits = c.count_wait.ensures in
    let seen : IsPrefix c.args.session.now.seen c.commit.new.session.seen = rw (ap (λ (s : SessionModel g.row.M.Denot g.row.M-Cmd.Denot g.row.M-Reply.Denot g.row.M-Hint.Denot g.row.M-Mark.Denot). s.seen) waits) at c.commit.ensures.seen in
    both_ok c.commit.result (λ r receipt reaches. record { before = _; after = _; receipt = rw waits at receipt; reaches = reaches; seen = seen }) c.commit.ensures.ok c.commit.ensures.reaches

pub returns-clause-fault : goal.returns-clause-fault
returns-clause-fault g c =
    each_err c.commit.result (λ f h. commit_fault c.deref_mut-2.result.now (counted c.args.session.now) c.commit.new.session c.args.session.now.seen f (rw c.count_wait.ensures at h)) c.commit.ensures.fault
