use Rattle.std.proofs.Common.{ap, sym, ◌∙◌}
use mathlib.Core.List.{IsPrefix}
use Rattle.un_publish.specs.Models.{SessionModel}
use Rattle.un_publish.proofs.Prefixes.{prefix_more}
use Rattle.un_journal.specs.Books.{JournalModel}
use Rattle.un_journal.proofs.journal.Journal.commit.Goals as goal

pub returns-clause-seen : goal.returns-clause-seen
returns-clause-seen g c =
    let seen = λ (t : SessionModel g.row.M.Denot g.row.M-Cmd.Denot g.row.M-Reply.Denot g.row.M-Hint.Denot g.row.M-Mark.Denot). t.seen in
    let log = λ (j : JournalModel g.row.M.Denot g.row.M-Cmd.Denot g.row.M-Reply.Denot g.row.M-Hint.Denot g.row.M-Mark.Denot). j.log in
    let grown = ap seen c.teach_committed.ensures.session ∙ ap log c.in-Ok-accept.ensures.ok.0 in
    let now = ap seen c.in_default.ensures.ok.1 ∙ ap log (sym c.bring_up.ensures.journal) in
    let before : IsPrefix c.args.session.now.seen c.bring_up.new.self.log = rw (← now) c.bring_up.ensures.seen in
    rw grown (prefix_more c.args.session.now.seen c.bring_up.new.self.log _ before)
