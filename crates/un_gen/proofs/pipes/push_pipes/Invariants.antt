use Rattle.std.proofs.Common.{◌≡◌, ◌++◌}
use Rattle.un_gen.specs.Generator.{seeded, pipes, state_at}
use Rattle.un_gen.proofs.pipes.push_pipes.Given as goal

-- the pipes so far, and the state of the draws
abbrev pub invariant-loop-place : goal.invariant-loop-place
invariant-loop-place l =
    (l.commands.items ≡ l.fn.commands.items ++ pipes l.count (seeded l.seed) l.place)
    × (l.draws.state ≡ state_at l.count (seeded l.seed) l.place)
