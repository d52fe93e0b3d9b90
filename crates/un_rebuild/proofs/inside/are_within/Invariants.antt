use Rattle.std.proofs.Common.{take}
use Rattle.un_rebuild.specs.Inside.{AreWithin}
use Rattle.un_rebuild.proofs.inside.are_within.Given as goal

-- the areas so far lie in the extent
abbrev pub invariant-loop-area : goal.invariant-loop-area
invariant-loop-area l = AreWithin (take l.area-index l.areas) l.extent
