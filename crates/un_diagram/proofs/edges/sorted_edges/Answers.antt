use Rattle.std.proofs.Common.{◌≡◌, ◌↔◌, List, sym, subst, ◌∙◌}
use Rattle.std.specs.Prelude.{Contains}
use Rattle.std.specs.List.{dedup}
use Rattle.std.specs.List.Sorted.{IsSorted, IsStrictlySortedBy}
use Rattle.std.proofs.lemmas.List.Filters.{dedup_is}
use Rattle.un_ask.specs.declared.results.Edge.{Edge}
use Rattle.un_diagram.specs.Diagram.{edge_cmp}
use Rattle.un_diagram.proofs.Alike.{edges_alike, equal_edges_alike, same_edge, edge_same, edge_itself, edge_total, edge_ties}
use Rattle.un_diagram.proofs.Sorting.{once_sorted, once_same}
use Rattle.un_diagram.proofs.edges.sorted_edges.Goals as goal

pub returns-clause-rise : goal.returns-clause-rise
returns-clause-rise c =
    let sorted : List Edge = c.sort_unstable.new.self.items in
    let in_order : IsSorted edge_cmp sorted = subst (λ cmp. IsSorted cmp sorted) edges_alike c.sort_unstable.ensures.sorted in
    let kept : c.dedup.new.self.items ≡ dedup same_edge sorted = dedup_is _ _ _ c.dedup.ensures.filtered ∙ (λ i. dedup (equal_edges_alike i) sorted) in
    subst (IsStrictlySortedBy edge_cmp) (sym kept) (once_sorted edge_total edge_ties same_edge edge_same edge_itself sorted in_order)

pub returns-clause-same : goal.returns-clause-same
returns-clause-same c = λ e.
    let sorted : List Edge = c.sort_unstable.new.self.items in
    let kept : c.dedup.new.self.items ≡ dedup same_edge sorted = dedup_is _ _ _ c.dedup.ensures.filtered ∙ (λ i. dedup (equal_edges_alike i) sorted) in
    subst (λ (l : List Edge). Contains l e ↔ Contains c.args.edges.items e) (sym kept)
    (once_same edge_total edge_ties same_edge edge_same edge_itself c.args.edges.items sorted c.sort_unstable.ensures.permutation e)
