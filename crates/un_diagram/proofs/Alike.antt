-- The order and the equality by which the code compares edges are those of the definitions.
use Rattle.std.proofs.Common.{◌≡◌, ◌&&◌, Bool, true, Ordering, Less, Equal, Greater, nat_cmp, refl}
use Rattle.std.specs.Ordering.{ordering_then}
use Rattle.std.specs.Cmp.{IsTotalOrder}
use Rattle.std.specs.FinMap.{IsAntisymmetric}
use Rattle.std.proofs.lemmas.Cmp.{then_total, on_total}
use Rattle.un_defs.specs.contracts.port.PortOrd.TheImpl as by_port
use Rattle.un_defs.specs.Orders.{port_cmp, same_port}
use Rattle.un_defs.proofs.LinkCases.{both_true, true_both}
use Rattle.un_defs.proofs.OrderLaws.{port_total, port_ties}
use Rattle.un_defs.proofs.Unique.{port_same, port_itself}
use Rattle.un_ask.specs.contracts.results.EdgeOrd.TheImpl as by_edge
use Rattle.un_ask.specs.contracts.results.EdgePartialEq.TheImpl as equal_edges
use Rattle.un_ask.specs.declared.results.Edge.{Edge}
use Rattle.un_diagram.specs.Diagram.{edge_cmp}

at_end : (k : Ordering) → k ≡ ordering_then k Equal
at_end Less = refl
at_end Equal = refl
at_end Greater = refl

ports_alike : by_port.ghosts.cmp ≡ port_cmp
ports_alike = λ i q r. ordering_then (nat_cmp q.feature r.feature) (at_end (nat_cmp q.number r.number) i)

pub edges_alike : by_edge.ghosts.cmp ≡ edge_cmp
edges_alike = λ i e f. ordering_then (ports_alike i e.from f.from) (ports_alike i e.to f.to)

abbrev pub same_edge : Edge → Edge → Bool
same_edge e f = same_port e.from f.from && same_port e.to f.to

pub equal_edges_alike : equal_edges.ghosts.eq ≡ same_edge
equal_edges_alike = refl

pub edge_same : (e f : Edge) → same_edge e f ≡ true → e ≡ f
edge_same e f h =
    let parts = both_true (same_port e.from f.from) _ h in
    let from = port_same e.from f.from parts.0 in
    let to = port_same e.to f.to parts.1 in
    λ i. record { from = from i; to = to i }

pub edge_itself : (e : Edge) → same_edge e e ≡ true
edge_itself e = true_both _ _ (port_itself e.from) (port_itself e.to)

pub edge_total : IsTotalOrder edge_cmp
edge_total = then_total (on_total (λ e. e.from) port_total) (on_total (λ e. e.to) port_total)

pub edge_ties : IsAntisymmetric edge_cmp
edge_ties e f h =
    let from = port_ties e.from f.from (go (port_cmp e.from f.from) (port_cmp e.to f.to) h).0 in
    let to = port_ties e.to f.to (go (port_cmp e.from f.from) (port_cmp e.to f.to) h).1 in
    λ i. record { from = from i; to = to i }
  where
    go : (k l : Ordering) → ordering_then k l ≡ Equal → (k ≡ Equal) × (l ≡ Equal)
    go Less l h = (let clash : Less ≡ Equal = h in absurd (cc))
    go Equal l h = (refl, h)
    go Greater l h = (let clash : Greater ≡ Equal = h in absurd (cc))
