use Rattle.std.proofs.Common.{◌∙◌, subst}
use Rattle.std.specs.List.Sorted.{IsBinarySearchResult}
use Rattle.un_defs.specs.Orders.{node_cmp, same_node}
use Rattle.un_defs.proofs.OrderLaws.{node_total, node_ties}
use Rattle.un_defs.proofs.Unique.{node_same, node_itself}
use Rattle.un_subnet.proofs.Alike.{nodes_alike}
use Rattle.un_subnet.proofs.Searching.{searched}
use Rattle.un_subnet.proofs.alone.has_node.Goals as goal

pub returns : goal.returns
returns c =
    let nodes = c.args.nodes.now in
    let node = c.args.node in
    let found : IsBinarySearchResult (λ n. node_cmp n node) nodes c.binary_search.result =
    subst (λ cmp. IsBinarySearchResult (λ n. cmp n node) nodes c.binary_search.result) nodes_alike c.binary_search.ensures.position in
    c.is_ok.ensures.value
    ∙ searched node_cmp node_total node_ties same_node node_same node_itself nodes c.requires node c.binary_search.result c.binary_search.ensures.bound found
