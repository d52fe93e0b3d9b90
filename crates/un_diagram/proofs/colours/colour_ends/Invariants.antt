use Rattle.std.proofs.Common.{take}
use Rattle.un_diagram.specs.Colours.{Colours}
use Rattle.un_diagram.proofs.colours.colour_ends.Given as goal

-- the ends so far
abbrev pub invariant-loop-end : goal.invariant-loop-end
invariant-loop-end l = Colours l.roles (take l.end-index l.ends) l.colour l.fn.colours l.colours l.fn.members.items l.members.items
