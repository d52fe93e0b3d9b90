use Rattle.std.specs.List.{IsDistinct}
use Rattle.std.proofs.Common.{◌≡◌, List, length, IsPermutation, IsSorted, sym, ap, subst, ◌∙◌, arith}
use Rattle.un_defs.specs.declared.port.Node.{Node}
use Rattle.un_defs.specs.Orders.{same_node, rising, node_cmp}
use Rattle.un_defs.specs.Reach.{IsReach, leads, dirt}
use Rattle.un_walk.specs.declared.found.Found.{Found}
use Rattle.un_walk.specs.Found.{nodes}
use Rattle.un_walk.proofs.Once.{in_order_is}
use Rattle.un_walk.proofs.walk.reach.Goals as goal

-- the sorted nodes are those that were found, in order
sorted_are : (f : Found) (X Y : List Node) → X ≡ nodes f → IsPermutation X Y → IsDistinct same_node (nodes f) → IsSorted node_cmp Y → rising node_cmp (nodes f) ≡ Y
sorted_are f X Y e moved distinct sorted = in_order_is (nodes f) Y distinct (subst (λ l. IsPermutation l Y) e moved) sorted

pub returns-clause-nodes : goal.returns-clause-nodes
returns-clause-nodes g c =
    let f : Found = c.in_ok-reached.reached.found in
    subst (IsReach (leads (g.G.Ground.stars_and_areas c.args.over.now) c.args.barriers.now c.args.mode) c.args.starts.now)
    (sorted_are f c.in_ok-nodes.nodes.items c.sort.new.nodes.items c.in_ok-nodes.ensures c.sort.ensures.permutation c.in_ok-reached.ensures.over.distinct c.sort.ensures.sorted ∙ sym c.new.ensures)
    c.in_ok-reached.ensures.nodes

pub returns-clause-dirt : goal.returns-clause-dirt
returns-clause-dirt g c =
    let f : Found = c.in_ok-reached.reached.found in
    c.in_ok-reached.ensures.dirt ∙ ap (dirt (g.G.Ground.stars_and_areas c.args.over.now))
    (sorted_are f c.in_ok-nodes.nodes.items c.sort.new.nodes.items c.in_ok-nodes.ensures c.sort.ensures.permutation c.in_ok-reached.ensures.over.distinct c.sort.ensures.sorted ∙ sym c.new.ensures)

pub returns-clause-ticks : goal.returns-clause-ticks
returns-clause-ticks g c = λ once.
    let f : Found = c.in_ok-reached.reached.found in
    let same = sorted_are f c.in_ok-nodes.nodes.items c.sort.new.nodes.items c.in_ok-nodes.ensures c.sort.ensures.permutation c.in_ok-reached.ensures.over.distinct c.sort.ensures.sorted ∙ sym c.new.ensures in
    omega (arith, c.in_ok-reached.ensures.ticks once, ap length same)
