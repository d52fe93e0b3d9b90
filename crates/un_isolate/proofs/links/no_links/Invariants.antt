use Rattle.std.proofs.Common.{◌≡◌, ℕ, length}
use Rattle.un_isolate.specs.Links.{HasLink}
use Rattle.un_isolate.proofs.links.no_links.Given as goal

abbrev pub invariant-loop-place : goal.invariant-loop-place
invariant-loop-place l = record {
  count : length l.links.items ≡ l._place;
  empty : (i j : ℕ) → HasLink l.links.items i j → ⊥;
}
