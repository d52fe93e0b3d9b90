use Rattle.std.proofs.Common.{◌≡◌, ◌≤◌, ◌-◌, length}
use mathlib.Core.List.{IsPrefix}
use Rattle.un_asof.specs.Pasts.{IsAfter, StandsFor, pair_of}
use Rattle.un_desk.specs.Desks.{counted}
use Rattle.un_desk.proofs.desk.Desk.past.Given as goal

abbrev pub invariant-rounds : goal.invariant-rounds
invariant-rounds g l = record {
  after : IsAfter g.M.Machine.step g.J.BoardName.opening l.session.seen (pair_of l.reached);
  below : l.reached.version ≤ l.at;
  within : l.at ≤ length l.session.seen;
  kept : l.session ≡ record (counted l.fn.session) { seen = l.session.seen };
  seen : IsPrefix l.fn.session.seen l.session.seen;
  stands : StandsFor g.M.Machine.step g.J.BoardName.opening l.past l.session.seen;
}

abbrev pub decreases-rounds : goal.decreases-rounds
decreases-rounds g l = l.at - l.reached.version
