use Rattle.std.proofs.Common.{refl}
use Rattle.un_desk.specs.declared.desk.ViewFault.TheVariants.{Memory as NoMemory}
use Rattle.un_desk.specs.declared.past.PastFault.TheVariants.{Memory as NoPast}
use Rattle.un_turns.specs.Turns.{Recalled, Unread, Unrecalled}
use Rattle.un_turns.proofs.Reading.{answered_no_more}
use Rattle.un_turns.proofs.Recalling.{answered_seen, kept_longer, unanswered_seen}
use Rattle.un_turns.proofs.handle.answer_past.Goals as goal

pub returns-in-Err-clause-served : goal.returns-in-Err-clause-served
returns-in-Err-clause-served g c = record { turn = Unread c.args.query c.args.at c.in-Err.fault; is = rw c.least.ensures at c.in-Err.ensures.fault; responds = (refl, c.view_response.ensures) }

pub returns-in-Err-clause-kept : goal.returns-in-Err-clause-kept
returns-in-Err-clause-kept g c =
    let s = c.args.session.now in
    let m = c.view_at_least.new.session in
    let seen = unanswered_seen g.M.Machine.step g.J.BoardName.opening s m c.least.result c.in-Err.fault c.in-Err.ensures.fault in
    kept_longer g.M.Machine.step g.J.BoardName.opening c.stands_for_longer.ensures c.args.kept.now s.seen m.seen seen c.requires

pub returns-in_default-clause-served : goal.returns-in_default-clause-served
returns-in_default-clause-served g c = record {
  turn = Unread c.args.query c.args.at NoMemory;
  is = answered_no_more g.M.Machine.step g.J.BoardName.opening c.args.session.now c.view_at_least.new.session (g.A.Answers.least c.args.query) c.in-Ok.view (rw c.least.ensures at c.in-Ok.ensures.view);
  responds = (refl, refl);
}

pub past-found-requires-clause-stands : goal.past-found-requires-clause-stands
past-found-requires-clause-stands g c κs within =
    let s = c.args.session.now in
    let m = c.view_at_least.new.session in
    let seen = answered_seen g.M.Machine.step g.J.BoardName.opening s m c.least.result c.in-Ok.view c.in-Ok.ensures.view in
    c.in-Ok-take_past.ensures.stands m.seen (kept_longer g.M.Machine.step g.J.BoardName.opening c.stands_for_longer.ensures c.args.kept.now s.seen m.seen seen c.requires)

pub returns-in-Err-found-clause-served : goal.returns-in-Err-found-clause-served
returns-in-Err-found-clause-served g c = record {
  turn = Unrecalled c.args.query c.args.at c.in-Err-found.fault;
  is = record {
    between = c.view_at_least.new.session;
    view = c.in-Ok.view;
    first = rw c.least.ensures at c.in-Ok.ensures.view;
    fault = c.in-Err-found.ensures.fault;
    seen = c.past-found.ensures.seen;
  };
  responds = (refl, c.past_response.ensures);
}

pub returns-in_default-answer-clause-served : goal.returns-in_default-answer-clause-served
returns-in_default-answer-clause-served g c = record {
  turn = Unrecalled c.args.query c.args.at NoPast;
  is = record {
    between = c.view_at_least.new.session;
    view = c.in-Ok.view;
    first = rw c.least.ensures at c.in-Ok.ensures.view;
    fault = c.in-Ok-found.ensures.kept;
    seen = c.past-found.ensures.seen;
  };
  responds = (refl, refl);
}

pub returns-clause-served : goal.returns-clause-served
returns-clause-served g c = record {
  turn = Recalled c.args.query c.args.at c.in-Ok.view c.in-Ok-found.view;
  is = record {
    between = c.view_at_least.new.session;
    first = rw c.least.ensures at c.in-Ok.ensures.view;
    past = record {
      seen = c.past-found.ensures.seen;
      version = c.in-Ok-found.ensures.version;
      after = c.in-Ok-found.ensures.state;
      kept = c.in-Ok-found.ensures.kept;
    };
  };
  responds = (refl, cc (c.in-Ok-answer.ensures, c.deref.ensures, c.max.ensures));
}
