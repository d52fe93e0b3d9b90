use Rattle.std.proofs.Common.{◌≡◌, ℕ, ◌+◌, ◌<◌, List, [], ◌∷◌, length, get_or, drop, drop-cons, add-one, Some, None, refl, sym, ap, subst, ◌∙◌, arith}
use Rattle.std.proofs.Math.ListN.{drop_of_length-le}
use Rattle.std.proofs.lemmas.Option.{slice_get_within}
use Rattle.un_defs.specs.declared.port.Port.{Port}
use Rattle.un_defs.specs.declared.port.Node.{Node}
use Rattle.un_defs.specs.declared.walk.Mode.TheVariants.{Any}
use Rattle.un_defs.specs.Reach.{leads}
use Rattle.un_defs.proofs.LinkCases.{some_same}
use Rattle.un_path.specs.declared.hops.Hop.{Hop}
use Rattle.un_path.specs.Checking.{IsCheapest, GoesOn}
use Rattle.un_path.specs.Costs.{step_cost}
use Rattle.un_path.proofs.Places.{node_at}
use Rattle.un_path.proofs.Following.{goes_nowhere, goes_on, goes_never, goes_by_cheapest}
use Rattle.un_path.proofs.walks.walk_end.Goals as goal

abbrev no_port : Port
no_port = record { feature = 0; number = 0 }

drop_from : (ports : List Port) (k : ℕ) → k < length ports → drop k ports ≡ get_or ports k no_port ∷ drop (k + 1) ports
drop_from ports k h = rw (add-one, drop-cons ports k no_port)

pub returns-in-None : goal.returns-in-None
returns-in-None g c = λ n at_n m d goes.
    let G = g.G.Ground.stars_and_areas c.args.over.now in
    let B = c.args.barriers.now in
    let w = c.args.weight in
    let nodes : List Node = c.args.nodes.now in
    let ports : List Port = c.args.ports.now in
    let hops : List Hop = c.in_ok-hops.hops.items in
    let k = c.loop-port.port-index in
    let p = c.loop-port.place in
    let here = node_at nodes p c.loop-port.invariant.inside in
    let port : Port = get_or ports k no_port in
    let rest : drop k ports ≡ port ∷ drop (k + 1) ports = drop_from ports k c.loop-port-test.true in
    let on : GoesOn (leads G B Any) (step_cost G B w) n ports here.0 (port ∷ drop (k + 1) ports) c.loop-port.cost =
    subst (λ l. GoesOn (leads G B Any) (step_cost G B w) n ports here.0 l c.loop-port.cost) rest (c.loop-port.invariant.on n here.0 at_n here.1) in
    let none : IsCheapest nodes port hops None = subst (λ l. IsCheapest nodes port l None) c.deref.ensures.value c.in-None.ensures in
    let more = (on m d).0 goes in
    goes_never G B w c.args.seen.now nodes c.requires.reached here.0 p here.1 hops (c.in_ok-hops.ensures here.0 here.1) port (drop (k + 1) ports) none m more.0 more.1

pub loop-port-preserved : goal.loop-port-preserved
loop-port-preserved g c =
    let G = g.G.Ground.stars_and_areas c.args.over.now in
    let B = c.args.barriers.now in
    let w = c.args.weight in
    let nodes : List Node = c.args.nodes.now in
    let ports : List Port = c.args.ports.now in
    let hops : List Hop = c.in_ok-hops.hops.items in
    let k = c.loop-port.port-index in
    let p = c.loop-port.place in
    let here = node_at nodes p c.loop-port.invariant.inside in
    let port : Port = get_or ports k no_port in
    let hop : Hop = c.in-Some.hop in
    let best : IsCheapest nodes port hops (Some hop) = subst (λ l. IsCheapest nodes port l (Some hop)) c.deref.ensures.value c.in-Some.ensures in
    let hops_are = c.in_ok-hops.ensures here.0 here.1 in
    let end = hops_are.sound hop best.0 in
    let price : c.price-cost.result ≡ hop.cost = c.price-cost.ensures.cost in
    record {
      inside = slice_get_within nodes hop.to end.0 end.1;
      on = λ n next at_n at_next.
          let rest : drop k ports ≡ port ∷ drop (k + 1) ports = drop_from ports k c.loop-port-test.true in
          let on : GoesOn (leads G B Any) (step_cost G B w) n ports here.0 (port ∷ drop (k + 1) ports) c.loop-port.cost =
          subst (λ l. GoesOn (leads G B Any) (step_cost G B w) n ports here.0 l c.loop-port.cost) rest (c.loop-port.invariant.on n here.0 at_n here.1) in
          subst (λ (e : ℕ). GoesOn (leads G B Any) (step_cost G B w) n ports next (drop (k + 1) ports) (c.loop-port.cost + e)) (sym price)
          (goes_on (leads G B Any) (step_cost G B w) n here.0 next ports (drop (k + 1) ports) port c.loop-port.cost hop.cost on
          (goes_by_cheapest G B w c.args.seen.now nodes c.requires.reached here.0 p here.1 hops hops_are port (drop (k + 1) ports) hop best next at_next));
      below = omega arith;
    }

pub returns : goal.returns
returns g c = λ n at_n m d.
    let G = g.G.Ground.stars_and_areas c.args.over.now in
    let B = c.args.barriers.now in
    let w = c.args.weight in
    let nodes : List Node = c.args.nodes.now in
    let ports : List Port = c.args.ports.now in
    let k = c.loop-port.port-index in
    let p = c.loop-port.place in
    let here = node_at nodes p c.loop-port.invariant.inside in
    let rest : drop k ports ≡ [] = drop_of_length-le ports c.loop-port-test.false in
    let on : GoesOn (leads G B Any) (step_cost G B w) n ports here.0 [] c.loop-port.cost =
    subst (λ l. GoesOn (leads G B Any) (step_cost G B w) n ports here.0 l c.loop-port.cost) rest (c.loop-port.invariant.on n here.0 at_n here.1) in (
      λ goes.
          let more = (on m d).0 goes in
          let still = (goes_nowhere (leads G B Any) (step_cost G B w) here.0 m more.0).0 more.1 in
          (here.1 ∙ ap Some (sym still.0), omega (arith, more.2, still.1)),
      λ (at, cost).
          let same : m ≡ here.0 = some_same m here.0 (sym at ∙ here.1) in
          (on m d).1 (0, (goes_nowhere (leads G B Any) (step_cost G B w) here.0 m 0).1 (same, refl), omega (arith, cost)),
    )
