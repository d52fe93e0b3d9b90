-- The order of nodes that the code compares by is that of the definitions.
use Rattle.std.proofs.Common.{◌≡◌, Ordering, Less, Equal, Greater, nat_cmp, int_cmp, refl}
use Rattle.std.specs.Ordering.{ordering_then}
use Rattle.un_defs.specs.contracts.port.NodeOrd.TheImpl as by_node
use Rattle.un_defs.specs.declared.port.Node.{Node}
use Rattle.un_defs.specs.Orders.{node_cmp}

at_end : (k : Ordering) → k ≡ ordering_then k Equal
at_end Less = refl
at_end Equal = refl
at_end Greater = refl

node_alike : (n m : Node) → by_node.ghosts.cmp n m ≡ node_cmp n m
node_alike n m = λ i. ordering_then
    (ordering_then (nat_cmp n.port.feature m.port.feature) (at_end (nat_cmp n.port.number m.port.number) i))
    (ordering_then (int_cmp n.at.x m.at.x) (ordering_then (int_cmp n.at.y m.at.y) (at_end (int_cmp n.at.z m.at.z) i)))

pub nodes_alike : by_node.ghosts.cmp ≡ node_cmp
nodes_alike = λ i n m. node_alike n m i
