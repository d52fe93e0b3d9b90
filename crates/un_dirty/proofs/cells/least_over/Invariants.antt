use Rattle.std.proofs.Common.{◌≡◌, true, IfSome}
use Rattle.un_dirty.specs.Cells.{covers_at, IsLeastOver}
use Rattle.un_dirty.proofs.cells.least_over.Given as goal

abbrev pub invariant-loop-level : goal.invariant-loop-level
invariant-loop-level l = record {
  sound : IfSome l.least (λ n. covers_at l.p n l.areas ≡ true);
  least : IsLeastOver l.level l.p l.areas l.cells l.least;
}
