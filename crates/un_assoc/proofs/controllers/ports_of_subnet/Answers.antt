use Rattle.std.proofs.Common.{◌≡◌, ◌++◌, ◌∙◌, map, filter, List, [], ◌∷◌, refl, ap}
use Rattle.std.specs.Map.{values_of}
use Rattle.std.specs.declared.ops.Bound.TheVariants as bound
use Rattle.un_defs.specs.declared.port.Port.{Port}
use Rattle.un_defs.specs.declared.assoc.Controller.{Controller}
use Rattle.un_defs.specs.Features.{is_of_subnet}
use Rattle.un_pages.specs.Pairs.{from_on}
use Rattle.un_assoc.proofs.ByPort.{own_cmp}
use Rattle.un_assoc.proofs.controllers.ports_of_subnet.Goals as goal

-- from no bound on there are all
from_all : (pairs : List (Port × Controller)) → from_on own_cmp bound.Unbounded pairs ≡ pairs
from_all [] = refl
from_all (pair ∷ pairs) = ap (λ rest. pair ∷ rest) (from_all pairs)

pub loop-controller-init : goal.loop-controller-init
loop-controller-init c =
    ap (λ l. l ++ map (λ x. x.port) (filter (is_of_subnet c.args.tier c.args.subnet.now) (values_of c.into_iter-controller-iterator.result))) c.new-ports.ensures.items
    ∙ ap (λ pairs. map (λ x. x.port) (filter (is_of_subnet c.args.tier c.args.subnet.now) (values_of pairs)))
    (c.into_iter-controller-iterator.ensures.into_iter_gives ∙ c.range-controller-items.ensures.pairs ∙ from_all c.args.pairs.now)
