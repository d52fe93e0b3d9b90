use Rattle.std.proofs.Common.{◌≡◌, ap}
use mathlib.Core.List.{IsPrefix}
use Rattle.un_publish.specs.Models.{SessionModel}
use Rattle.un_publish.proofs.Prefixes.{prefix_trans}
use Rattle.un_desk.specs.Desks.{counted}
use Rattle.un_desk.proofs.Answering.{both_ok, each_err, commit_fault, commit_receipt, teach_fault}
use Rattle.un_desk.proofs.desk.Desk.submit_prepared.Goals as goal

pub returns-in-Err-clause-fault : goal.returns-in-Err-clause-fault
returns-in-Err-clause-fault g c = teach_fault c.deref_mut-2.result.now.log (counted c.args.session.now) c.teach.new.session c.in-Err.denied (rw c.count_wait.ensures at c.in-Err.ensures.denied)

pub returns-clause-receipt : goal.returns-clause-receipt
returns-clause-receipt g c =
    let seen = λ (s : SessionModel g.row.M.Denot g.row.M-Cmd.Denot g.row.M-Reply.Denot g.row.M-Hint.Denot g.row.M-Mark.Denot). s.seen in
    let log = c.deref_mut-2.result.now.log in
    let taught : c.teach.new.session ≡ record (counted c.args.session.now) { seen = log } = rw c.count_wait.ensures at c.in_default.ensures.ok in
    let first : IsPrefix c.args.session.now.seen c.teach.new.session.seen = rw (ap seen c.count_wait.ensures) at c.teach.ensures.seen in
    let all = prefix_trans c.args.session.now.seen c.teach.new.session.seen c.commit.new.session.seen first c.commit.ensures.seen in
    both_ok c.commit.result (λ r receipt reaches. record { before = _; after = _; receipt = commit_receipt g.M.Machine.step _ _ (counted c.args.session.now) c.commit.new.session log c.args.cmd r (rw taught at receipt); reaches = reaches; seen = all }) c.commit.ensures.ok c.commit.ensures.reaches

pub returns-clause-fault : goal.returns-clause-fault
returns-clause-fault g c =
    let log = c.deref_mut-2.result.now.log in
    let taught : c.teach.new.session ≡ record (counted c.args.session.now) { seen = log } = rw c.count_wait.ensures at c.in_default.ensures.ok in
    each_err c.commit.result (λ f h. commit_fault c.deref_mut-4.result.now (counted c.args.session.now) c.commit.new.session log f (rw taught at h)) c.commit.ensures.fault
