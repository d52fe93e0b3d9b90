use Rattle.std.proofs.Common.{◌≡◌, ◌↔◌, ℕ, ◌+◌, List, length, Option, Some, sym, ap, subst, Vec, Global, arith}
use Rattle.std.specs.Prelude.{slice_get, Contains}
use Rattle.std.proofs.lemmas.Option.{slice_get_within}
use Rattle.un_defs.specs.declared.port.Node.{Node}
use Rattle.un_ask.specs.declared.typed.DiagramAsk.{DiagramAsk}
use Rattle.un_ask.specs.declared.results.Edge.{Edge}
use Rattle.un_diagram.specs.declared.roles.Role.{Role}
use Rattle.un_diagram.specs.declared.roles.Role.TheVariants.{Kept}
use Rattle.un_diagram.specs.Colours.{AddsEdges, IsEdgeBelow}
use Rattle.un_diagram.proofs.Colouring.{some_at}
use Rattle.un_diagram.proofs.Edging.{below_none, below_past, below_on, port_kept, kept_lacking}
use Rattle.un_diagram.proofs.edges.edges_of.Goals as goal
use Rattle.un_diagram.proofs.edges.edges_of.Goals.{in-Some+in_ok-ends+in_ok-add_edges, in_default}

pub loop-from-init : goal.loop-from-init
loop-from-init g c =
    let G = g.G.Ground.stars_and_areas c.args.over.now in
    below_none G c.args.ask.now c.args.nodes.now c.args.roles.now c.requires.roles c.args.colours.now c.requires.colours c.new-edges.result.items c.new-edges.ensures.items

pub add_edges-requires-clause-port : goal.add_edges-requires-clause-port
add_edges-requires-clause-port g c = (port_kept c.args.nodes.now c.args.roles.now c.loop-from.from c.in-Some.port (sym c.in-Some.ensures)).1

pub add_edges-requires-clause-ends : goal.add_edges-requires-clause-ends
add_edges-requires-clause-ends g c = λ j has.
    let nodes : List Node = c.args.nodes.now in
    let n = some_at nodes c.loop-from.from c.loop-from-test.true in
    let end = (c.in_ok-ends.ensures n.0 n.1).sound j (subst (λ (l : List ℕ). Contains l j) c.as_slice.ensures.value has) in
    slice_get_within nodes j end.0 end.1

pub loop-from-preserved : goal.loop-from-preserved
loop-from-preserved g c =
    let G = g.G.Ground.stars_and_areas c.args.over.now in
    let ask : DiagramAsk = c.args.ask.now in
    let nodes : List Node = c.args.nodes.now in
    let roles : List Role = c.args.roles.now in
    let colours : List (Option ℕ) = c.args.colours.now in
    let k = c.loop-from.from in
    let old : List Edge = c.loop-from.edges.items in
    let n = some_at nodes k c.loop-from-test.true in
    elim c.match-kept_port.branch [
      | in-Some+in_ok-ends+in_ok-add_edges v ↦
          let ends : List ℕ = v.in_ok-ends.ends.items in
          let new : List Edge = v.add_edges.new.edges.items in
          let role : slice_get roles k ≡ Some Kept = (port_kept nodes roles k v.in-Some.port (sym v.in-Some.ensures)).0 in
          let adds : AddsEdges G ask nodes colours k ends old new = subst (λ (l : List ℕ). AddsEdges G ask nodes colours k l old new) v.as_slice.ensures.value v.in_ok-add_edges.ensures in
          subst (λ (es : List Edge). (e : Edge) → Contains es e ↔ IsEdgeBelow G ask nodes colours (k + 1) e) (sym (ap (λ (e : Vec Edge Global). e.items) v.edges-is))
          (below_on G ask nodes roles c.requires.roles colours c.requires.colours k n.0 n.1 old c.loop-from.invariant role ends (v.in_ok-ends.ensures n.0 n.1) new adds)
      | in_default v ↦
          subst (λ (es : List Edge). (e : Edge) → Contains es e ↔ IsEdgeBelow G ask nodes colours (k + 1) e) (sym (ap (λ (e : Vec Edge Global). e.items) v.edges-is))
          (below_past G ask nodes roles c.requires.roles colours c.requires.colours k n.0 n.1 old c.loop-from.invariant (kept_lacking nodes roles k n.0 n.1 (sym v.in_default.ensures)))
    ]

pub returns-clause-exact : goal.returns-clause-exact
returns-clause-exact g c = λ e.
    let G = g.G.Ground.stars_and_areas c.args.over.now in
    let is : c.loop-from.from ≡ length c.args.nodes.now = omega (arith, c.loop-from-test.false, c.loop-from.auto.from-end) in
    let all = subst (λ n. Contains c.loop-from.edges.items e ↔ IsEdgeBelow G c.args.ask.now c.args.nodes.now c.args.colours.now n e) is (c.loop-from.invariant e) in
    let same = c.sorted_edges.ensures.same e in
    (λ h. all.0 (same.0 h), λ b. same.1 (all.1 b))
