use Rattle.std.proofs.Common.{◌<◌, List, set, length, length-set, Option, Some, None, Result, Ok, Err, OnOk, inl, refl, sym, ap, subst, arith}
use Rattle.std.specs.Prelude.{Contains}
use Rattle.std.proofs.lemmas.Option.{slice_get_within}
use Rattle.un_defs.specs.declared.port.Node.{Node}
use Rattle.un_defs.specs.declared.walk.Mode.TheVariants.{Any}
use Rattle.un_defs.specs.Reach.{leads}
use Rattle.un_path.specs.declared.hops.Hop.{Hop}
use Rattle.un_path.specs.declared.search.Arrival.{Arrival}
use Rattle.un_path.specs.declared.search.Coming.{Coming}
use Rattle.un_path.specs.Costs.{step_cost}
use Rattle.un_path.specs.Hops.{AreHops}
use Rattle.un_path.specs.Search.{IsPendingIn, arrival_of, HasArrival, first_arrival, PushesHops, IsUnderWay}
use Rattle.un_path.proofs.Places.{node_at}
use Rattle.un_path.proofs.Searching.{begun_after, few, settled_way, fewer_free}
use Rattle.un_path.proofs.search.settle.Goals as goal

on_ok : {A E : Type 0} {P Q : Type 0} (r : Result A E) → OnOk r P → (P → Q) → OnOk r Q
on_ok (Ok x) p f = f p
on_ok (Err e) p f = tt

always : {A E : Type 0} {Q : Type 0} (r : Result A E) → Q → OnOk r Q
always (Ok x) q = q
always (Err e) q = tt

pub push_hops-requires-clause-inside : goal.push_hops-requires-clause-inside
push_hops-requires-clause-inside g c = λ h has.
    let nodes : List Node = c.args.nodes.now in
    let x : Coming = c.args.coming in
    let arrivals : List (Option Arrival) = c.args.arrivals.now in
    let next = c.requires.next in
    let below : x.place < length nodes = (let e = slice_get_within arrivals x.place None next.free in omega (arith, next.way.count)) in
    let n = node_at nodes x.place below in
    let end = (c.in_ok-hops.ensures n.0 n.1).sound h (subst (λ (l : List Hop). Contains l h) c.deref.ensures.value has) in
    omega (arith, slice_get_within nodes h.to end.0 end.1, next.way.count, length-set arrivals x.place (Some c.arrival.result))

pub push_hops-requires-clause-few : goal.push_hops-requires-clause-few
push_hops-requires-clause-few g c =
    let G = g.G.Ground.stars_and_areas c.args.over.now in
    let x : Coming = c.args.coming in
    let arrivals : List (Option Arrival) = c.args.arrivals.now in
    let bound = few (leads G c.args.barriers.now Any) (step_cost G c.args.barriers.now c.args.weight) c.args.nodes.now c.requires.reached.rising c.args._start arrivals x (IsPendingIn c.args.pending.now.data.items) c.requires.next in
    omega (arith, bound, ap (λ (a : Arrival). a.steps) c.arrival-2.ensures, length-set arrivals x.place (Some c.arrival.result))

pub push_hops-requires-clause-small : goal.push_hops-requires-clause-small
push_hops-requires-clause-small g c =
    let small = c.requires.next.way.small c.args.coming (inl refl) in
    omega (arith, small, ap (λ (a : Arrival). a.steps) c.arrival-2.ensures, ap (λ (a : Arrival). a.cost) c.arrival-2.ensures)

pub returns-clause-begun : goal.returns-clause-begun
returns-clause-begun g c =
    let G = g.G.Ground.stars_and_areas c.args.over.now in
    let x : Coming = c.args.coming in
    let arrivals : List (Option Arrival) = c.args.arrivals.now in
    let s = c.args._start in
    always c.push_hops.result (subst (λ (a : Arrival). HasArrival (set arrivals x.place (Some a)) s (first_arrival s)) (sym c.arrival.ensures)
    (begun_after (leads G c.args.barriers.now Any) (step_cost G c.args.barriers.now c.args.weight) c.args.nodes.now c.requires.reached.rising s arrivals x (IsPendingIn c.args.pending.now.data.items) c.requires.next))

pub returns-clause-fewer : goal.returns-clause-fewer
returns-clause-fewer g c = always c.push_hops.result (fewer_free c.args.arrivals.now c.args.coming.place c.arrival.result c.requires.next.free)

pub returns-clause-way : goal.returns-clause-way
returns-clause-way g c =
    let G = g.G.Ground.stars_and_areas c.args.over.now in
    let B = c.args.barriers.now in
    let w = c.args.weight in
    let nodes : List Node = c.args.nodes.now in
    let x : Coming = c.args.coming in
    let arrivals : List (Option Arrival) = c.args.arrivals.now in
    let s = c.args._start in
    let next = c.requires.next in
    let old = c.args.pending.now.data.items in
    let new = c.push_hops.new.pending.data.items in
    let hops : List Hop = c.in_ok-hops.hops.items in
    let below : x.place < length nodes = (let e = slice_get_within arrivals x.place None next.free in omega (arith, next.way.count)) in
    let n = node_at nodes x.place below in
    let are : AreHops G B w nodes n.0 hops = c.in_ok-hops.ensures n.0 n.1 in
    on_ok c.push_hops.result c.push_hops.ensures.pushed (λ pushed.
    let exact : PushesHops (set arrivals x.place (Some (arrival_of x))) hops x.place (arrival_of x) old new =
    subst (λ (a : Arrival). PushesHops (set arrivals x.place (Some a)) hops x.place (arrival_of x) old new) c.arrival.ensures
    (subst (λ (a : Arrival). PushesHops (set arrivals x.place (Some c.arrival.result)) hops x.place a old new) c.arrival-2.ensures
    (subst (λ (l : List Hop). PushesHops (set arrivals x.place (Some c.arrival.result)) l x.place c.arrival-2.result old new) c.deref.ensures.value pushed)) in
    subst (λ (a : Arrival). IsUnderWay (leads G B Any) (step_cost G B w) nodes s (set arrivals x.place (Some a)) (IsPendingIn new)) (sym c.arrival.ensures)
    (settled_way (leads G B Any) (step_cost G B w) nodes c.requires.reached.rising s arrivals x (IsPendingIn old) next n.0 n.1 hops are.sound are.whole (IsPendingIn new) exact.kept exact.only exact.whole))
