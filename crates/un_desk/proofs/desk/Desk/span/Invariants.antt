use Rattle.std.proofs.Common.{◌≡◌, ◌≤◌, ◌-◌, take, drop}
use Rattle.std.specs.Arc.{arc_value}
use mathlib.Core.List.{IsPrefix}
use Rattle.un_asof.specs.Pasts.{IsAfter, StandsFor, pair_of}
use Rattle.un_desk.specs.Desks.{counted}
use Rattle.un_desk.proofs.desk.Desk.span.Given as goal

abbrev pub invariant-rounds : goal.invariant-rounds
invariant-rounds g l = record {
  older : IsAfter g.M.Machine.step g.J.BoardName.opening l.session.seen (pair_of l.since);
  newer : IsAfter g.M.Machine.step g.J.BoardName.opening l.session.seen (l.upto, arc_value l.reached.state);
  above : l.since.version ≤ l.from;
  below : l.from ≤ l.upto;
  gathered : g.G.Gathers.stands l.gathered (take (l.from - l.since.version) (drop l.since.version l.session.seen));
  kept : l.session ≡ record (counted l.fn.session) { seen = l.session.seen };
  seen : IsPrefix l.fn.session.seen l.session.seen;
  stands : StandsFor g.M.Machine.step g.J.BoardName.opening l.past l.session.seen;
}

abbrev pub decreases-rounds : goal.decreases-rounds
decreases-rounds g l = l.upto - l.from
