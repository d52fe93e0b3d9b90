use Rattle.std.proofs.Common.{◌≡◌, ◌↔◌, ℕ, Some, sym, subst}
use Rattle.std.specs.List.Sorted.{IsBinarySearchResult}
use Rattle.un_defs.specs.declared.port.Node.{Node}
use Rattle.un_defs.specs.Orders.{node_cmp}
use Rattle.un_diagram.specs.Places.{IsAt}
use Rattle.un_diagram.proofs.Placing.{nodes_alike, place_is}
use Rattle.un_diagram.proofs.ends.place_of.Goals as goal

pub returns : goal.returns
returns c =
    let nodes = c.args.nodes.now in
    let facts = c.binary_search.ensures in
    let found : IsBinarySearchResult (λ m. node_cmp m c.args.node) nodes c.binary_search.result =
    subst (λ cmp. IsBinarySearchResult (λ (m : Node). cmp m c.args.node) nodes c.binary_search.result) nodes_alike facts.position in
    subst (λ o. (p : ℕ) → (o ≡ Some p) ↔ IsAt nodes p c.args.node) (sym c.ok.ensures.value)
    (place_is nodes c.requires c.args.node c.binary_search.result facts.bound found)
