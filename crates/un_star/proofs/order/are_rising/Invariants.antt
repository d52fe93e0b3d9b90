use Rattle.std.proofs.Common.{◌≡◌, ◌-◌, drop}
use Rattle.un_defs.specs.Orders.{rising, tie_cmp}
use Rattle.un_star.proofs.order.are_rising.Given as goal

-- the last links are in order
abbrev pub invariant-loop-done : goal.invariant-loop-done
invariant-loop-done l = rising tie_cmp (drop (l.count - l.done) l.ties) ≡ drop (l.count - l.done) l.ties
