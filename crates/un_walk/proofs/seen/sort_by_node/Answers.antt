use Rattle.std.proofs.Common.{rules, ◌≡◌, is_lt, ap, ◌∙◌}
use Rattle.std.proofs.lemmas.List.Sorted.{ranks_by, answers_always}
use Rattle.un_defs.specs.contracts.port.NodeOrd.TheImpl as order
use Rattle.un_defs.specs.Orders.{node_cmp}
use Rattle.un_defs.proofs.OrderLaws.{node_total}
use Rattle.un_walk.specs.Seen.{node_of}
use Rattle.un_walk.proofs.Entered.{node_alike, sorted_nodes}
use Rattle.un_walk.proofs.seen.sort_by_node.Goals as goal

pub returns-clause-sorted : goal.returns-clause-sorted
returns-clause-sorted c =
    sorted_nodes c.sort_unstable_by.new.self.items (c.sort_unstable_by.ensures.sorted (λ x y. is_lt (node_cmp x.node y.node)) (ranks_by node_total node_of)
    (answers_always _ _ _ (λ f a r h called.
    let compared : r ≡ order.ghosts.cmp a.0.now.node a.1.0.now.node = search rules in
    ap is_lt (compared ∙ node_alike a.0.now.node a.1.0.now.node))))
