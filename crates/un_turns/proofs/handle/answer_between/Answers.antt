use Rattle.std.proofs.Common.{◌≡◌, max, refl, ap, ◌∙◌, inl, inr, arith}
use Rattle.std.specs.Arc.{arc_value}
use Rattle.un_desk.specs.declared.desk.ViewFault.TheVariants.{Memory as NoMemory}
use Rattle.un_desk.specs.declared.past.PastFault.TheVariants.{Memory as NoPast}
use Rattle.un_turns.specs.declared.request.Request.TheVariants.{Between}
use Rattle.un_turns.specs.declared.request.Response.TheVariants.{BetweenAnswer, Reversed as IsReversed}
use Rattle.un_turns.specs.Turns.{Compared, Reversed, UnreadSpan, Uncompared, IsRecalled, end_of, later_of}
use Rattle.un_turns.specs.Served.{answering, IsServed}
use Rattle.un_turns.proofs.Holding.{answered_holds}
use Rattle.un_turns.proofs.Reading.{answered_no_more}
use Rattle.un_turns.proofs.Recalling.{answered_seen, kept_longer, unanswered_seen}
use Rattle.un_turns.proofs.handle.answer_between.Goals as goal

pub returns-in-Err-clause-served : goal.returns-in-Err-clause-served
returns-in-Err-clause-served g c = record {
  turn = UnreadSpan c.args.query c.args.since c.args.upto c.in-Err.fault;
  is = rw c.least.ensures at c.in-Err.ensures.fault;
  responds = (refl, c.view_response.ensures);
}

pub returns-in-Err-clause-kept : goal.returns-in-Err-clause-kept
returns-in-Err-clause-kept g c =
    let s = c.args.session.now in
    let m = c.view_at_least.new.session in
    let seen = unanswered_seen g.M.Machine.step g.J.BoardName.opening s m c.least.result c.in-Err.fault c.in-Err.ensures.fault in
    kept_longer g.M.Machine.step g.J.BoardName.opening c.stands_for_longer.ensures c.args.kept.now s.seen m.seen seen c.requires

pub returns-in_default-clause-served : goal.returns-in_default-clause-served
returns-in_default-clause-served g c = record {
  turn = UnreadSpan c.args.query c.args.since c.args.upto NoMemory;
  is = answered_no_more g.M.Machine.step g.J.BoardName.opening c.args.session.now c.view_at_least.new.session (g.A.Answers.least c.args.query) c.in-Ok.view (rw c.least.ensures at c.in-Ok.ensures.view);
  responds = (refl, refl);
}

pub past-found-requires-clause-stands : goal.past-found-requires-clause-stands
past-found-requires-clause-stands g c κs within =
    let s = c.args.session.now in
    let m = c.view_at_least.new.session in
    let seen = answered_seen g.M.Machine.step g.J.BoardName.opening s m c.least.result c.in-Ok.view c.in-Ok.ensures.view in
    let held = answered_holds g.M.Machine.step g.J.BoardName.opening s m c.least.result c.in-Ok.view c.in-Ok.ensures.view in
    c.keep_view.ensures m.seen
    (c.in-Ok-take_past.ensures.stands m.seen (kept_longer g.M.Machine.step g.J.BoardName.opening c.stands_for_longer.ensures c.args.kept.now s.seen m.seen seen c.requires))
    (held.1, held.2)

pub returns-in-Err-found-clause-served : goal.returns-in-Err-found-clause-served
returns-in-Err-found-clause-served g c = record {
  turn = Uncompared c.args.query c.args.since c.args.upto c.args.since c.in-Err-found.fault;
  is = inl (
    refl,
    record {
      between = c.view_at_least.new.session;
      view = c.in-Ok.view;
      first = rw c.least.ensures at c.in-Ok.ensures.view;
      fault = c.in-Err-found.ensures.fault;
      seen = c.past-found.ensures.seen;
    },
  );
  responds = (refl, c.past_response.ensures);
}

pub returns-then-end-since-clause-served : goal.returns-then-end-since-clause-served
returns-then-end-since-clause-served g c = record {
  turn = Reversed c.args.query c.args.since c.args.upto c.in-Ok.view c.in-Ok-found.view;
  is = record {
    older = record {
      between = c.view_at_least.new.session;
      first = rw c.least.ensures at c.in-Ok.ensures.view;
      past = record {
        seen = c.past-found.ensures.seen;
        version = c.in-Ok-found.ensures.version;
        after = c.in-Ok-found.ensures.state;
        kept = c.in-Ok-found.ensures.kept;
      };
    };
    order = rw c.unwrap_or-end.ensures at c.if-end-since.true;
  };
  responds = (refl, ap (λ e. IsReversed c.in-Ok.view.version c.args.since e) c.unwrap_or-end.ensures);
}

pub returns-in-Err-found-2-clause-served : goal.returns-in-Err-found-2-clause-served
returns-in-Err-found-2-clause-served g c = record {
  turn = Uncompared c.args.query c.args.since c.args.upto c.unwrap_or-end.result c.in-Err-found-2.fault;
  is = inr (record {
    between = c.past-found.new.session;
    view = c.in-Ok.view;
    old = c.in-Ok-found.view;
    older = record {
      between = c.view_at_least.new.session;
      first = rw c.least.ensures at c.in-Ok.ensures.view;
      past = record {
        seen = c.past-found.ensures.seen;
        version = c.in-Ok-found.ensures.version;
        after = c.in-Ok-found.ensures.state;
        kept = c.in-Ok-found.ensures.kept;
      };
    };
    is_end = c.unwrap_or-end.ensures;
    fault = c.in-Err-found-2.ensures.fault;
    seen = c.span-found.ensures.seen;
  });
  responds = (refl, c.past_response-in-Err-found-2.ensures);
}

pub returns-clause-served : goal.returns-clause-served
returns-clause-served g c =
    let older : IsRecalled g.M.Machine.step g.J.BoardName.opening c.args.session.now c.past-found.new.session (g.A.Answers.least c.args.query) c.args.since c.in-Ok.view c.in-Ok-found.view =
    record {
      between = c.view_at_least.new.session;
      first = rw c.least.ensures at c.in-Ok.ensures.view;
      past = record {
        seen = c.past-found.ensures.seen;
        version = c.in-Ok-found.ensures.version;
        after = c.in-Ok-found.ensures.state;
        kept = c.in-Ok-found.ensures.kept;
      };
    } in
    let end : c.unwrap_or-end.result ≡ end_of c.args.upto c.in-Ok.view.version = c.unwrap_or-end.ensures in
    let last : c.max.result ≡ later_of c.args.upto c.in-Ok.view.version = c.max.ensures ∙ ap (λ u. max c.in-Ok.view.version u) end in
    elim c.compare_views.ensures as (λ _. IsServed g.M.Machine.step g.J.BoardName.opening g.A.Answers.least (answering g.A.Answers.answer g.A.Answers.between)
    c.args.session.now (Between c.args.since c.args.upto c.args.query) c.compare_views.result c.span-found.new.session) [
      | inl e ↦ record {
        turn = Uncompared c.args.query c.args.since c.args.upto c.unwrap_or-end.result NoPast;
        is = inr (record {
          between = c.past-found.new.session;
          view = c.in-Ok.view;
          old = c.in-Ok-found.view;
          older = older;
          is_end = end;
          fault = c.in-Ok-found-2.ensures.kept;
          seen = c.span-found.ensures.seen;
        });
        responds = (refl, e);
      }
      | inr e ↦ record {
        turn = Compared c.args.query c.args.since c.args.upto c.in-Ok.view c.in-Ok-found.view c.in-Ok-found-2.view;
        is = record {
          between = c.past-found.new.session;
          older = older;
          order = omega (arith, c.if-end-since.false, end);
          newer = record {
            seen = c.span-found.ensures.seen;
            version = c.in-Ok-found-2.ensures.version ∙ end;
            after = rw end at c.in-Ok-found-2.ensures.state;
            kept = c.in-Ok-found-2.ensures.kept;
          };
        };
        responds = (
          refl,
          e ∙ (λ i. BetweenAnswer (last i) (g.A.Answers.between (record { since = c.args.since; upto = end i; version = last i })
              (arc_value c.in-Ok-found.view.state) (arc_value c.in-Ok-found-2.view.state) c.args.query)),
        );
      }
    ]
