use Rattle.std.proofs.Common.{◌≡◌, take, length}
use Rattle.std.specs.List.{sum_by}
use Rattle.un_rebuild.specs.Rebuilding.{fresh_at, AreRebuilt}
use Rattle.un_rebuild.proofs.topology.put_stars.Given as goal

-- the points so far have the stars of all features
abbrev pub invariant-loop-point : goal.invariant-loop-point
invariant-loop-point l =
    AreRebuilt l.facts l.kept (take l.point-index l.points) l.fresh
    × (l.errors ≡ sum_by (λ p. length (fresh_at l.facts p).errors) (take l.point-index l.points))
