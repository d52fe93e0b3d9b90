use Rattle.std.proofs.Common.{◌≡◌, flat_map, take}
use Rattle.un_core.proofs.prepared.rects_of.Given as goal

-- the rectangles of the entries so far
abbrev pub invariant-loop-entry : goal.invariant-loop-entry
invariant-loop-entry l = l.rects.items ≡ flat_map (λ e. e.mark) (take l.entry-index l.since)
