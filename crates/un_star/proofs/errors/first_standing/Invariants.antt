use Rattle.std.proofs.Common.{◌≡◌, ◌+◌, ◌-◌, find}
use Rattle.std.specs.List.{range_with_len}
use Rattle.un_star.specs.Errors.{stands_as}
use Rattle.un_star.proofs.errors.first_standing.Given as goal

-- none of the ports so far stands at the point
abbrev pub invariant-loop-before : goal.invariant-loop-before
invariant-loop-before l =
    find (stands_as l.p l.row) (range_with_len l.from l.count) ≡ find (stands_as l.p l.row) (range_with_len (l.from + l.before) (l.count - l.before))
