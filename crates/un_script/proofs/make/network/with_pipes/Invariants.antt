use Rattle.std.proofs.Common.{◌≡◌}
use Rattle.un_gen.specs.Generator.{seeded, pipes, state_at}
use Rattle.un_script.specs.Redone.{redone}
use Rattle.un_script.proofs.make.network.with_pipes.Given as goal

-- the pipes so far are inserted, and the state of the draws is that after them
abbrev pub invariant-loop-place : goal.invariant-loop-place
invariant-loop-place l =
    (l.last ≡ redone l.fn.net (pipes l.count (seeded l.seed) l.place))
    × (l.draws.state ≡ state_at l.count (seeded l.seed) l.place)
