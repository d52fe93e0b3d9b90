use Rattle.std.proofs.Common.{◌≡◌, ◌+◌}
use Rattle.un_walk_tests.proofs.steps.sum.Given as goal

-- one step for each number so far
abbrev pub invariant-loop-number : goal.invariant-loop-number
invariant-loop-number g l = l.steps ≡ l.initial.steps + l.number-index
