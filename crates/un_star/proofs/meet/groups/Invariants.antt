use Rattle.std.proofs.Common.{List, take}
use Rattle.un_schema.specs.declared.rule.Rule.{Rule}
use Rattle.un_star.specs.Meet.{AreGroups}
use Rattle.un_star.proofs.meet.groups.Given as goal

-- the groups answer as the ends so far
abbrev pub invariant-loop-end : goal.invariant-loop-end
invariant-loop-end l = (rules : List Rule) → AreGroups rules l.joint (take l.end-index l.ends) l.groups.items
