use Rattle.std.proofs.Common.{take}
use Rattle.un_core.proofs.Collecting.{IsCollected}
use Rattle.un_core.proofs.changes.points_kept.Given as goal

-- the set has the points under the rectangles so far
abbrev pub invariant-loop-rect : goal.invariant-loop-rect
invariant-loop-rect l = IsCollected l.older l.newer (take l.rect-index l.rects) l.set.keys
