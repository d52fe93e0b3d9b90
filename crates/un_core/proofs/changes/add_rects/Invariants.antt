use Rattle.std.proofs.Common.{◌≡◌, ◌++◌, map, take}
use Rattle.un_core.proofs.changes.add_rects.Given as goal

-- the rectangles of the areas so far
abbrev pub invariant-loop-area : goal.invariant-loop-area
invariant-loop-area l = l.rects.items ≡ l.initial.rects.items ++ map (λ a. a.1) (take l.area-index l.areas)
