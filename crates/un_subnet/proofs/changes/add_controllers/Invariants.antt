use Rattle.std.proofs.Common.{◌≡◌, ◌++◌, map, filter_map, take}
use Rattle.std.specs.Map.Iter.{deref}
use Rattle.un_subnet.proofs.changes.add_controllers.Given as goal

-- the controllers of the entries so far have been added
abbrev pub invariant-loop-spot : goal.invariant-loop-spot
invariant-loop-spot l = map deref l.controllers.items ≡ map deref l.fn.controllers.items ++ filter_map (λ s. s.controller) (take l.spot-index l.spot-items)
