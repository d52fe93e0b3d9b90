use Rattle.std.proofs.Common.{◌↔◌, ℕ, take}
use Rattle.std.specs.Prelude.{Contains}
use Rattle.un_diagram.specs.Places.{IsEndBy}
use Rattle.un_diagram.proofs.ends.ends_by.Given as goal

-- the ends of the links so far
abbrev pub invariant-loop-tie : goal.invariant-loop-tie
invariant-loop-tie l = (j : ℕ) → Contains l.ends.items j ↔ IsEndBy l.nodes (take l.tie-index l.tie-items) j
