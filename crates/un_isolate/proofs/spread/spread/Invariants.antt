use Rattle.std.proofs.Common.{◌≤◌, ◌-◌, ◌^◌, length}
use Rattle.un_isolate.specs.Spread.{IsSpread}
use Rattle.un_isolate.proofs.spread.spread.Given as goal

-- the places before the next have been gone on from
abbrev pub invariant-loop-next : goal.invariant-loop-next
invariant-loop-next l = record {
  within : l.next ≤ length l.found.order.items;
  spread : IsSpread l.links l.starts l.closed l.found l.next;
}

abbrev pub decreases-loop-next : goal.decreases-loop-next
decreases-loop-next l = 2 ^ 64 - l.next
