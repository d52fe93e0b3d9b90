use Rattle.std.proofs.Common.{◌≡◌, ◌++◌, flat_map, take}
use Rattle.un_subnet.specs.declared.row_index.Subject.TheVariants.{At}
use Rattle.un_subnet.specs.RowIndex.{numbers_at}
use Rattle.un_subnet.proofs.marking.push_at_points.Given as goal

-- those at the points so far
abbrev pub invariant-loop-point : goal.invariant-loop-point
invariant-loop-point l = l.numbers.items ≡ l.fn.numbers.items ++ flat_map (λ p. numbers_at l.keys (At p)) (take l.point-index l.points)
