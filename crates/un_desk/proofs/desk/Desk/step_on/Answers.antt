use Rattle.std.proofs.Common.{◌≡◌, ◌≤◌, ◌+◌, length, ap, sym, ◌∙◌, arith}
use Rattle.std.specs.Arc.{arc_value}
use Rattle.un_publish.specs.Models.{SessionModel}
use Rattle.un_publish.proofs.Prefixes.{prefix_length}
use Rattle.un_journal.specs.Books.{JournalModel}
use Rattle.un_asof.specs.Pasts.{IsAfter}
use Rattle.un_desk.proofs.Recalling.{after_longer, round_after, round_leads}
use Rattle.un_desk.proofs.desk.Desk.step_on.Goals as goal

pub replay-requires-clause-leads : goal.replay-requires-clause-leads
replay-requires-clause-leads g c κs within =
    let seen = c.teach.new.session.seen in
    let after = after_longer g.M.Machine.step g.J.BoardName.opening c.stands_for_longer.ensures c.args.session.now.seen seen (c.args.from.version, arc_value c.args.from.state) c.teach.ensures.seen c.requires.from in
    let log_of = λ (j : JournalModel g.row.M.Denot g.row.M-Cmd.Denot g.row.M-Reply.Denot g.row.M-Hint.Denot g.row.M-Mark.Denot). j.log in
    let seen_of = λ (s : SessionModel g.row.M.Denot g.row.M-Cmd.Denot g.row.M-Reply.Denot g.row.M-Hint.Denot g.row.M-Mark.Denot). s.seen in
    let here : c.deref-2.result.now ≡ c.teach.new.self = rw c.deref.ensures at c.deref-2.ensures in
    let lent : c.deref-2.result.now.log ≡ seen = ap log_of (here ∙ c.teach.ensures.journal) ∙ sym (ap seen_of c.in_default.ensures.ok) in
    rw c.deref-3.ensures
    (round_leads g.M.Machine.step g.J.BoardName.opening c.entries_lead_on.ensures c.deref-2.result.now.log seen c.entries-rest.result.now c.deref-2.result.now.state (arc_value c.args.from.state) c.args.from.version c.min-count.result
    lent c.entries-rest.ensures.reaches after c.entries-rest.ensures.entries)

pub returns-in_default-replay-clause-stands : goal.returns-in_default-replay-clause-stands
returns-in_default-replay-clause-stands g c =
    c.stands_for_longer.ensures c.args.past.now c.args.session.now.seen c.teach.new.session.seen c.teach.ensures.seen c.requires.stands

pub returns-in_default-try_clone-clause-stands : goal.returns-in_default-try_clone-clause-stands
returns-in_default-try_clone-clause-stands g c =
    c.stands_for_longer.ensures c.args.past.now c.args.session.now.seen c.teach.new.session.seen c.teach.ensures.seen c.requires.stands

pub returns-clause-state : goal.returns-clause-state
returns-clause-state g c =
    let seen = c.teach.new.session.seen in
    let after = after_longer g.M.Machine.step g.J.BoardName.opening c.stands_for_longer.ensures c.args.session.now.seen seen (c.args.from.version, arc_value c.args.from.state) c.teach.ensures.seen c.requires.from in
    let log_of = λ (j : JournalModel g.row.M.Denot g.row.M-Cmd.Denot g.row.M-Reply.Denot g.row.M-Hint.Denot g.row.M-Mark.Denot). j.log in
    let seen_of = λ (s : SessionModel g.row.M.Denot g.row.M-Cmd.Denot g.row.M-Reply.Denot g.row.M-Hint.Denot g.row.M-Mark.Denot). s.seen in
    let here : c.deref-2.result.now ≡ c.teach.new.self = rw c.deref.ensures at c.deref-2.ensures in
    let lent : c.deref-2.result.now.log ≡ seen = ap log_of (here ∙ c.teach.ensures.journal) ∙ sym (ap seen_of c.in_default.ensures.ok) in
    let grown = prefix_length c.args.session.now.seen seen c.teach.ensures.seen in
    let within : c.args.from.version + c.min-count.result ≤ length seen = omega (arith, c.min-count.ensures, c.requires.before, c.requires.within, grown) in
    round_after g.M.Machine.step g.J.BoardName.opening c.state_after_replay.ensures c.deref-2.result.now.log seen c.entries-rest.result.now c.deref-2.result.now.state (arc_value c.args.from.state) (arc_value c.in-Ok.state) c.args.from.version c.min-count.result
    lent c.entries-rest.ensures.reaches after c.entries-rest.ensures.entries within (rw c.deref-3.ensures at c.in-Ok.ensures)

pub returns-clause-stands : goal.returns-clause-stands
returns-clause-stands g c =
    let seen = c.teach.new.session.seen in
    let stands = c.stands_for_longer.ensures c.args.past.now c.args.session.now.seen seen c.teach.ensures.seen c.requires.stands in
    let after : IsAfter g.M.Machine.step g.J.BoardName.opening seen (c.args.from.version + c.min-count.result, arc_value c.in-Ok.state) = returns-clause-state g c in
    c.keep.ensures.stands seen stands (rw c.in-Ok-try_clone.ensures after)
