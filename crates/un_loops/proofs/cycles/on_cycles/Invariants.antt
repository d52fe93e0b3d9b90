use Rattle.std.proofs.Common.{◌≡◌, ℕ, ◌<◌, ◌↔◌, length, Some, true}
use Rattle.std.specs.Prelude.{slice_get}
use Rattle.un_loops.specs.Graph.{IsOnCycle}
use Rattle.un_loops.proofs.cycles.on_cycles.Given as goal

abbrev pub invariant-loop-index : goal.invariant-loop-index
invariant-loop-index l = record {
  count : length l.marks.items ≡ l.index;
  exact : (i : ℕ) → i < l.index → (slice_get l.marks.items i ≡ Some true) ↔ IsOnCycle l.links i;
}
