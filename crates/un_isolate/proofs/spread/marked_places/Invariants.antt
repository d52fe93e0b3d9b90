use Rattle.std.proofs.Common.{◌≡◌, ◌↔◌, ◌<◌, ℕ, true}
use Rattle.std.specs.Prelude.{Contains}
use Rattle.un_isolate.specs.Spread.{mark_at}
use Rattle.un_isolate.proofs.spread.marked_places.Given as goal

abbrev pub invariant-loop-place : goal.invariant-loop-place
invariant-loop-place l = (i : ℕ) → Contains l.places.items i ↔ ((i < l.place) × (mark_at l.marks i ≡ true))
