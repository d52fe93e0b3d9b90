use Rattle.std.proofs.Common.{◌≡◌, map, take}
use Rattle.un_geom.specs.Places.{least_of, greatest_of}
use Rattle.un_facts.proofs.envelope.envelope_from.Given as goal

abbrev pub invariant-loop-p : goal.invariant-loop-p
invariant-loop-p l = record {
  west : l.x0 ≡ least_of l.fn.first.x (map (λ q. q.x) (take l.p-index l.rest));
  south : l.y0 ≡ least_of l.fn.first.y (map (λ q. q.y) (take l.p-index l.rest));
  east : l.x1 ≡ greatest_of l.fn.first.x (map (λ q. q.x) (take l.p-index l.rest));
  north : l.y1 ≡ greatest_of l.fn.first.y (map (λ q. q.y) (take l.p-index l.rest));
}
