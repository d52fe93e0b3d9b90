use Rattle.std.proofs.Common.{◌≡◌, ◌++◌, flat_map, take}
use Rattle.un_subnet.specs.Outcome.{is_row_of}
use Rattle.un_subnet.specs.RowIndex.{numbers_with}
use Rattle.un_subnet.proofs.marking.push_of_controllers.Given as goal

-- those of the controllers so far
abbrev pub invariant-loop-controller : goal.invariant-loop-controller
invariant-loop-controller l = l.numbers.items ≡ l.fn.numbers.items ++ flat_map (λ c. numbers_with (is_row_of c.now.tier c.now.subnet) l.rows) (take l.controller-index l.controllers)
