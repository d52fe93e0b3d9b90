use Rattle.std.proofs.Common.{ap}
use mathlib.Core.List.{IsPrefix}
use Rattle.un_publish.specs.Models.{SessionModel}
use Rattle.un_asof.specs.Pasts.{StandsFor}
use Rattle.un_desk.proofs.desk.Desk.past.Goals as goal

pub returns-in_err-catch_up-clause-stands : goal.returns-in_err-catch_up-clause-stands
returns-in_err-catch_up-clause-stands g c =
    let seen = λ (s : SessionModel g.row.M.Denot g.row.M-Cmd.Denot g.row.M-Reply.Denot g.row.M-Hint.Denot g.row.M-Mark.Denot). s.seen in
    let first : IsPrefix c.args.session.now.seen c.catch_up.new.session.seen = rw (ap seen c.count_wait.ensures) at c.catch_up.ensures.seen in
    c.stands_for_longer.ensures c.args.past.now c.args.session.now.seen c.catch_up.new.session.seen first c.requires.stands

pub returns-in_default-clause-stands : goal.returns-in_default-clause-stands
returns-in_default-clause-stands g c =
    let seen = λ (s : SessionModel g.row.M.Denot g.row.M-Cmd.Denot g.row.M-Reply.Denot g.row.M-Hint.Denot g.row.M-Mark.Denot). s.seen in
    let first : IsPrefix c.args.session.now.seen c.catch_up.new.session.seen = rw (ap seen c.count_wait.ensures) at c.catch_up.ensures.seen in
    c.stands_for_longer.ensures c.args.past.now c.args.session.now.seen c.catch_up.new.session.seen first c.requires.stands

pub rounds-init : goal.rounds-init
rounds-init g c =
    let seen = λ (s : SessionModel g.row.M.Denot g.row.M-Cmd.Denot g.row.M-Reply.Denot g.row.M-Hint.Denot g.row.M-Mark.Denot). s.seen in
    let first : IsPrefix c.args.session.now.seen c.catch_up.new.session.seen = rw (ap seen c.count_wait.ensures) at c.catch_up.ensures.seen in
    let stands : StandsFor g.M.Machine.step g.J.BoardName.opening c.args.past.now c.catch_up.new.session.seen =
    c.stands_for_longer.ensures c.args.past.now c.args.session.now.seen c.catch_up.new.session.seen first c.requires.stands in
    record {
      after = c.in-Ok.ensures.stands c.catch_up.new.session.seen stands;
      below = c.in-Ok.ensures.below;
      within = c.in_ok-catch_up.ensures.within;
      kept = rw c.count_wait.ensures at c.in_ok-catch_up.ensures.kept;
      seen = first;
      stands = stands;
    }
