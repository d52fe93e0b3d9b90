use Rattle.std.proofs.Common.{◌≡◌, filter, take}
use Rattle.un_defs.specs.Dirtied.{has_joint_of}
use Rattle.un_facts.proofs.facts.Facts.with_joints.Given as goal

-- those of the points so far
abbrev pub invariant-loop-p : goal.invariant-loop-p
invariant-loop-p l = l.found.items ≡ filter (has_joint_of l.self.features l.kind) (take l.p-index l.points)
