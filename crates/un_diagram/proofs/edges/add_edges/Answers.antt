use Rattle.std.proofs.Common.{◌≡◌, ◌↔◌, ℕ, ◌++◌, List, [], ◌∷◌, get_or, take, take_all, Option, Some, None, refl, sym, ap, subst, subst₂, ◌∙◌, Vec, Global}
use Rattle.std.specs.Prelude.{slice_get}
use Rattle.std.specs.Option.{option_map}
use Rattle.std.proofs.lemmas.List.{take_more}
use Rattle.un_defs.specs.declared.port.Port.{Port}
use Rattle.un_defs.specs.declared.port.Node.{Node}
use Rattle.un_defs.proofs.LinkCases.{some_same}
use Rattle.un_walk.proofs.Growing.{contains_at}
use Rattle.un_ask.specs.declared.typed.DiagramAsk.{DiagramAsk}
use Rattle.un_ask.specs.declared.results.Edge.{Edge}
use Rattle.un_diagram.specs.declared.roles.Role.{Role}
use Rattle.un_diagram.specs.Edges.{port_at, seen_as}
use Rattle.un_diagram.specs.Places.{IsAt}
use Rattle.un_diagram.specs.Colours.{IsSeenAs, AddsEdges}
use Rattle.un_diagram.proofs.Colouring.{some_at}
use Rattle.un_diagram.proofs.Edging.{seen_is, edges_with, edges_without, edges_none}
use Rattle.un_diagram.proofs.edges.add_edges.Goals as goal
use Rattle.un_diagram.proofs.edges.add_edges.Goals.{in-Some+in_ok-push, in_default}

-- the node that has the port at a place
node_with : (nodes : List Node) (i : ℕ) (q : Port) → port_at nodes i ≡ Some q → (n : Node) × IsAt nodes i n × (n.port ≡ q)
node_with nodes i q e = go (slice_get nodes i) refl
  where
    go : (o : Option Node) → slice_get nodes i ≡ o → (n : Node) × IsAt nodes i n × (n.port ≡ q)
    go (Some n) at = (n, at, some_same n.port q (sym (ap (option_map (λ (x : Node). x.port)) at) ∙ e))
    go None at = (let clash : None ≡ Some q = sym (ap (option_map (λ (x : Node). x.port)) at) ∙ e in absurd (cc))

pub loop-end-init : goal.loop-end-init
loop-end-init g c =
    let G = g.G.Ground.stars_and_areas c.args._over.now in
    edges_none G c.args._ask.now c.args.nodes.now c.args.roles.now c.requires.roles c.args.colours.now c.requires.colours c.args.from c.args.edges.now.items

pub loop-end-preserved : goal.loop-end-preserved
loop-end-preserved g c =
    let G = g.G.Ground.stars_and_areas c.args._over.now in
    let ask : DiagramAsk = c.args._ask.now in
    let nodes : List Node = c.args.nodes.now in
    let roles : List Role = c.args.roles.now in
    let colours : List (Option ℕ) = c.args.colours.now in
    let ends : List ℕ = c.args.ends.now in
    let i = c.args.from in
    let k = c.loop-end.end-index in
    let j : ℕ = get_or ends k 0 in
    let more = sym (take_more ends k 0 c.loop-end-test.true) in
    let first : List Edge = c.args.edges.now.items in
    let old : List Edge = c.loop-end.edges.items in
    let so_far : AddsEdges G ask nodes colours i (take k ends) first old = c.loop-end.invariant in
    let n = node_with nodes i c.args.port c.requires.port in
    let m = some_at nodes j (c.requires.ends j (contains_at ends k 0 c.loop-end-test.true)) in
    let seen : (q : Port) → (seen_as nodes roles colours i j ≡ Some q) ↔ IsSeenAs G ask nodes colours i j m.0 q = λ q. seen_is G ask nodes roles c.requires.roles colours c.requires.colours i j m.0 m.1 q in
    elim c.match-seen_as.branch [
      | in-Some+in_ok-push v ↦
          let shown : Some v.in-Some.to ≡ seen_as nodes roles colours i j = v.in-Some.ensures in
          let one : record { from = (n.0).port; to = v.in-Some.to } ≡ record { from = c.args.port; to = v.in-Some.to } = λ l. record { from = n.2 l; to = v.in-Some.to } in
          subst₂ (λ (l : List ℕ) (es : List Edge). AddsEdges G ask nodes colours i l first es) more
          (ap (λ (e : Edge). old ++ e ∷ []) one ∙ sym (ap (λ (e : Vec Edge Global). e.items) v.edges-is ∙ v.in_ok-push.ensures.items))
          (edges_with G ask nodes roles c.requires.roles colours c.requires.colours i n.0 n.1 (take k ends) first old so_far j m.0 m.1 v.in-Some.to
          (λ q. subst (λ o. (o ≡ Some q) ↔ IsSeenAs G ask nodes colours i j m.0 q) (sym shown) (seen q)))
      | in_default v ↦
          let shown : None ≡ seen_as nodes roles colours i j = v.in_default.ensures in
          subst₂ (λ (l : List ℕ) (es : List Edge). AddsEdges G ask nodes colours i l first es) more (sym (ap (λ (e : Vec Edge Global). e.items) v.edges-is))
          (edges_without G ask nodes roles c.requires.roles colours c.requires.colours i n.0 n.1 (take k ends) first old so_far j m.0 m.1
          (λ q. subst (λ o. (o ≡ Some q) ↔ IsSeenAs G ask nodes colours i j m.0 q) (sym shown) (seen q)))
    ]

pub returns : goal.returns
returns g c =
    let G = g.G.Ground.stars_and_areas c.args._over.now in
    subst (λ (l : List ℕ). AddsEdges G c.args._ask.now c.args.nodes.now c.args.colours.now c.args.from l c.args.edges.now.items c.loop-end.edges.items)
    (take_all c.loop-end.end-index c.args.ends.now c.loop-end-test.false) c.loop-end.invariant
