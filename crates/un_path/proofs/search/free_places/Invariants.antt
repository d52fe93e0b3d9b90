use Rattle.std.proofs.Common.{◌≡◌, ℕ, length}
use Rattle.un_path.specs.Search.{IsSettledAt, free_count}
use Rattle.un_path.proofs.search.free_places.Given as goal

abbrev pub invariant-loop-place : goal.invariant-loop-place
invariant-loop-place l = record {
  count : length l.arrivals.items ≡ l.«_place»;
  free : (i : ℕ) → IsSettledAt l.arrivals.items i → ⊥;
  free_count : free_count l.arrivals.items ≡ l.«_place»;
}
