use Rattle.std.proofs.Common.{◌≡◌, List, IfOk, map, ap, sym, subst, ◌∙◌}
use Rattle.un_defs.proofs.ListLemmas.{map-map}
use Rattle.un_defs.specs.declared.port.Node.{Node}
use Rattle.un_walk.specs.Seen.{node_of}
use Rattle.un_walk.proofs.found.Found.nodes.Goals as goal

pub returns : goal.returns
returns c =
    subst (λ (l : List Node). IfOk c.nodes_in.result (λ list. list.items ≡ l))
    (ap (map (λ i. i.seen.node)) c.as_slice.ensures.value ∙ sym (map-map (λ i. i.seen) node_of c.args.self.now.items.items))
    c.nodes_in.ensures
