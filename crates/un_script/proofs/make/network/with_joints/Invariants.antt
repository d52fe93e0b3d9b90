use Rattle.std.proofs.Common.{◌≡◌}
use Rattle.un_gen.specs.Generator.{joints}
use Rattle.un_script.specs.Redone.{redone}
use Rattle.un_script.proofs.make.network.with_joints.Given as goal

-- the joints so far are inserted
abbrev pub invariant-loop-place : goal.invariant-loop-place
invariant-loop-place l = l.last ≡ redone l.fn.net (joints l.place)
