use Rattle.std.proofs.Common.{◌≡◌, ◌++◌}
use Rattle.un_gen.specs.Generator.{joints}
use Rattle.un_gen.proofs.joints.push_joints.Given as goal

-- the joints so far
abbrev pub invariant-loop-place : goal.invariant-loop-place
invariant-loop-place l = l.commands.items ≡ l.fn.commands.items ++ joints l.place
