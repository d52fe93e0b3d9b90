use Rattle.std.proofs.Common.{◌≡◌, ◌-◌, drop}
use Rattle.un_defs.specs.Orders.{rising}
use Rattle.un_defs.proofs.order.is_rising.Given as goal

-- the last elements are in order
abbrev pub invariant-loop-done : goal.invariant-loop-done
invariant-loop-done g l = rising g.T.Ord.cmp (drop (l.count - l.done) l.xs) ≡ drop (l.count - l.done) l.xs
