use Rattle.std.proofs.Common.{◌≡◌, ◌↔◌, ℕ, Some, rules, sym, subst}
use Rattle.std.specs.List.Sorted.{IsBinarySearchResult}
use Rattle.std.proofs.lemmas.List.Sorted.{answers_always}
use Rattle.un_defs.specs.Orders.{node_cmp}
use Rattle.un_walk.specs.declared.seen.Seen.{Seen}
use Rattle.un_isolate.specs.Entries.{IsPlaceOf}
use Rattle.un_isolate.proofs.Naming.{nodes_alike}
use Rattle.un_isolate.proofs.Searching.{place_is}
use Rattle.un_isolate.proofs.links.place_of.Goals as goal

pub returns : goal.returns
returns c =
    let nodes = c.args.nodes.now in
    let facts = c.binary_search_by_key.ensures in
    let by_key = facts.position (λ (v : Seen). v.node) (answers_always _ _ _ (λ f a r h called. search rules)) in
    let found : IsBinarySearchResult (λ v. node_cmp v.node c.args.node) nodes c.binary_search_by_key.result =
    subst (λ cmp. IsBinarySearchResult (λ (v : Seen). cmp v.node c.args.node) nodes c.binary_search_by_key.result) nodes_alike by_key in
    subst (λ o. (p : ℕ) → (o ≡ Some p) ↔ IsPlaceOf nodes c.args.node p) (sym c.ok.ensures.value)
    (place_is nodes c.requires c.args.node c.binary_search_by_key.result facts.bound found)
