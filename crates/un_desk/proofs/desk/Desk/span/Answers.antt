use Rattle.std.proofs.Common.{◌≡◌, ◌≤◌, ◌+◌, ◌-◌, ℕ, length, take, drop, subst, arith}
use Rattle.std.specs.Arc.{arc_value}
use Rattle.un_publish.proofs.Prefixes.{prefix_trans}
use Rattle.un_desk.specs.Desks.{counted}
use Rattle.un_desk.proofs.Recalling.{after_longer, kept_later}
use Rattle.un_desk.proofs.Spanning.{gathered_none, gathered_on, leads_from_to}
use Rattle.un_desk.proofs.desk.Desk.span.Goals as goal

pub rounds-init : goal.rounds-init
rounds-init g c =
    let seen = c.past.new.session.seen in
    let v = c.args.since.now.version in
    record {
      older = after_longer g.M.Machine.step g.J.BoardName.opening c.stands_for_longer.ensures c.args.session.now.seen seen (v, arc_value c.args.since.now.state) c.past.ensures.seen c.requires.since;
      newer = c.in_ok-reached.ensures.state;
      above = omega arith;
      below = c.requires.order;
      gathered = gathered_none g.G.Gathers.stands c.args.gathered.now seen v c.requires.empty;
      kept = c.in_ok-reached.ensures.kept;
      seen = c.past.ensures.seen;
      stands = c.past.ensures.stands;
    }

pub returns-in_err-count-clause-stands : goal.returns-in_err-count-clause-stands
returns-in_err-count-clause-stands g c =
    c.stands_for_longer.ensures c.past.new.past c.rounds.session.seen c.gather_on.new.session.seen c.gather_on.ensures.seen c.rounds.invariant.stands

pub rounds-preserved : goal.rounds-preserved
rounds-preserved g c =
    let before = c.rounds.session.seen in
    let seen = c.gather_on.new.session.seen in
    let more = c.gather_on.ensures.seen in
    let v = c.args.since.now.version in
    let from = c.rounds.from in
    let within : from ≤ length before = omega (arith, c.rounds.invariant.below, c.rounds.invariant.newer.0) in
    let above : v ≤ from + c.in_ok-count.count = omega (arith, c.rounds.invariant.above) in
    record {
      older = after_longer g.M.Machine.step g.J.BoardName.opening c.stands_for_longer.ensures before seen (v, arc_value c.args.since.now.state) more c.rounds.invariant.older;
      newer = after_longer g.M.Machine.step g.J.BoardName.opening c.stands_for_longer.ensures before seen (c.args.upto, arc_value c.in_ok-reached.reached.state) more c.rounds.invariant.newer;
      above = above;
      below = c.in_ok-count.ensures.some.1;
      gathered = gathered_on g.G.Gathers.stands c.rounds.gathered c.gather_on.new.gathered before seen v from c.in_ok-count.count more c.rounds.invariant.above within c.rounds.invariant.gathered c.in_ok-count.ensures.gathered;
      kept = kept_later (counted c.args.session.now) c.rounds.session c.gather_on.new.session c.rounds.invariant.kept c.in_ok-count.ensures.kept;
      seen = prefix_trans c.args.session.now.seen before seen c.rounds.invariant.seen more;
      stands = c.stands_for_longer.ensures c.past.new.past before seen more c.rounds.invariant.stands;
    }

pub returns-clause-between : goal.returns-clause-between
returns-clause-between g c =
    let seen = c.rounds.session.seen in
    let v = c.args.since.now.version in
    let all : c.rounds.from ≡ c.args.upto = omega (arith, c.rounds.invariant.below, c.rounds-test.false) in
    record {
      leads = leads_from_to g.M.Machine.step g.J.BoardName.opening seen v c.args.upto (arc_value c.args.since.now.state) (arc_value c.in_ok-reached.reached.state) c.requires.order c.rounds.invariant.older c.rounds.invariant.newer;
      stands = subst (λ (n : ℕ). g.G.Gathers.stands c.rounds.gathered (take (n - v) (drop v seen))) all c.rounds.invariant.gathered;
    }
