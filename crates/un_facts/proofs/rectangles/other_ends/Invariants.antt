use Rattle.std.proofs.Common.{◌≡◌, flat_map, take}
use Rattle.un_facts.specs.Partners.{taken_end}
use Rattle.un_facts.proofs.rectangles.other_ends.Given as goal

-- the other ends of the associations so far
abbrev pub invariant-loop-assoc : goal.invariant-loop-assoc
invariant-loop-assoc l = l.ids.items ≡ flat_map (taken_end l.which l.id) (take l.assoc-index l.found)
