use Rattle.std.proofs.Common.{◌≡◌, ◌++◌, map, filter}
use Rattle.std.specs.Map.{values_of}
use Rattle.un_defs.specs.Features.{is_of_subnet}
use Rattle.un_assoc.proofs.controllers.ports_of_subnet.Given as goal

abbrev pub invariant-loop-controller : goal.invariant-loop-controller
invariant-loop-controller l =
    l.ports.items ++ map (λ c. c.port) (filter (is_of_subnet l.tier l.subnet) (values_of l.controller-iterator))
    ≡ map (λ c. c.port) (filter (is_of_subnet l.tier l.subnet) (values_of l.pairs))
