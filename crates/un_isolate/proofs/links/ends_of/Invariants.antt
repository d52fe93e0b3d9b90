use Rattle.std.proofs.Common.{◌↔◌, ℕ, take}
use Rattle.std.specs.Prelude.{Contains}
use Rattle.un_defs.specs.declared.link.Tie.{Tie}
use Rattle.un_isolate.specs.Entries.{IsEndOf}
use Rattle.un_isolate.proofs.links.ends_of.Given as goal

-- the places to which the links so far lead
abbrev pub invariant-loop-tie : goal.invariant-loop-tie
invariant-loop-tie l = (p : ℕ) → Contains l.ends.items p ↔ ((t : Tie) × Contains (take l.tie-index l.tie-items) t × IsEndOf l.barriers.tier l.nodes l.one t p)
