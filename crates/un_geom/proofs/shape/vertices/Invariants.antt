use Rattle.std.proofs.Common.{◌≡◌, ◌≤◌, map, take, length}
use Rattle.un_geom.specs.Places.{point_of}
use Rattle.un_geom.proofs.shape.vertices.Given as goal

abbrev pub invariant-loop-triple : goal.invariant-loop-triple
invariant-loop-triple l = record {
  so_far : l.vertices.items ≡ map point_of (take l.triple-index l.points);
  room : length l.points ≤ l.vertices.capacity;
}
