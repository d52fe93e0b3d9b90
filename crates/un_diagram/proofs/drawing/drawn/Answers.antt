use Rattle.std.proofs.Common.{◌≡◌, ◌↔◌, ℕ, List, map, length, Option, sym, ap, subst, ◌∙◌}
use Rattle.std.specs.Prelude.{Contains}
use Rattle.std.specs.List.Sorted.{IsStrictlySortedBy}
use Rattle.un_defs.specs.declared.port.Port.{Port}
use Rattle.un_defs.specs.declared.port.Node.{Node}
use Rattle.un_defs.specs.Orders.{port_cmp}
use Rattle.un_ask.specs.declared.typed.DiagramAsk.{DiagramAsk}
use Rattle.un_ask.specs.declared.results.Piece.{Piece}
use Rattle.un_ask.specs.declared.results.Edge.{Edge}
use Rattle.un_diagram.specs.declared.roles.Role.{Role}
use Rattle.un_diagram.specs.Answer.{drawn}
use Rattle.un_diagram.specs.Diagram.{edge_cmp, Diagram, IsKept, IsPiece, IsEdge, IsDiagram}
use Rattle.un_diagram.specs.Places.{AreRoles}
use Rattle.un_diagram.specs.Colours.{IsEdgeBelow}
use Rattle.un_diagram.proofs.Linking.{are_roles}
use Rattle.un_diagram.proofs.Drawn.{exact_kept, kept_sorted, exact_pieces, exact_edges}
use Rattle.un_diagram.proofs.Listing.{only_list}
use Rattle.un_diagram.proofs.drawing.drawn.Goals as goal

pub coloured-requires-clause-roles : goal.coloured-requires-clause-roles
coloured-requires-clause-roles g c =
    let G = g.G.Ground.stars_and_areas c.args.over.now in
    are_roles G c.args.ask.now c.args.seen.now c.args.nodes.now c.requires c.as_slice-2.result.now (c.as_slice-2.ensures.value ∙ c.in_ok-roles.ensures)

pub edges_of-requires-clause-roles : goal.edges_of-requires-clause-roles
edges_of-requires-clause-roles g c =
    let G = g.G.Ground.stars_and_areas c.args.over.now in
    are_roles G c.args.ask.now c.args.seen.now c.args.nodes.now c.requires c.as_slice-3.result.now (c.as_slice-3.ensures.value ∙ c.in_ok-roles.ensures)

pub returns : goal.returns
returns g c =
    let G = g.G.Ground.stars_and_areas c.args.over.now in
    let ask : DiagramAsk = c.args.ask.now in
    let nodes : List Node = c.args.nodes.now in
    let net = c.requires.net in
    let roles : List Role = c.as_slice.result.now in
    let are : AreRoles G ask nodes roles = are_roles G ask c.args.seen.now nodes c.requires roles (c.as_slice.ensures.value ∙ c.in_ok-roles.ensures) in
    let colours : List (Option ℕ) = c.in_ok-all.all.colours.items in
    let pieces : List Piece = c.in_ok-all.all.pieces.items in
    let coloured = c.in_ok-all.ensures.colours in
    let all = c.in_ok-all.ensures.pieces in
    let kept = sym (c.new-2.ensures ∙ c.in_ok-kept.ensures) in
    let shown : Diagram = record { kept = c.new-2.result; pieces = c.new-3.result; edges = c.new.result } in
    let found : IsDiagram G ask nodes shown = record {
      kept_rise = subst (IsStrictlySortedBy port_cmp) kept (kept_sorted G ask nodes net roles are);
      kept = λ q. subst (λ (l : List Port). Contains l q ↔ ((n : Node) × IsKept G ask nodes n × (n.port ≡ q))) kept (exact_kept G ask nodes net roles are q);
      pieces_rise = subst (λ (l : List Piece). IsStrictlySortedBy port_cmp (map (λ (p : Piece). p.name) l)) (sym c.new-3.ensures) all.rise;
      pieces = λ p. subst (λ (l : List Piece). Contains l p ↔ IsPiece G ask nodes p) (sym c.new-3.ensures) (exact_pieces G ask nodes net roles are colours coloured pieces all p);
      edges_rise = subst (IsStrictlySortedBy edge_cmp) (sym c.new.ensures) c.in_ok-edges.ensures.rise;
      edges = λ e.
          let below = subst (λ (cs : List (Option ℕ)). Contains c.in_ok-edges.edges.items e ↔ IsEdgeBelow G ask nodes cs (length nodes) e) c.as_slice-4.ensures.value (c.in_ok-edges.ensures.exact e) in
          let exact = exact_edges G ask nodes net roles are colours coloured pieces all e in
          subst (λ (l : List Edge). Contains l e ↔ IsEdge G ask nodes e) (sym c.new.ensures) (λ h. exact.0 (below.0 h), λ h. below.1 (exact.1 h));
    } in
    ap drawn (only_list G ask nodes net.rising net.closed net.linked.own_ports shown found)
