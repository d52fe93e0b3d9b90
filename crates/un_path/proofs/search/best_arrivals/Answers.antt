use Rattle.std.proofs.Common.{◌≡◌, ℕ, List, length, Option, sym, ap, subst, ◌∙◌, arith}
use Rattle.un_defs.specs.declared.port.Node.{Node}
use Rattle.un_defs.specs.declared.walk.Mode.TheVariants.{Any}
use Rattle.un_defs.specs.Reach.{leads}
use Rattle.un_path.specs.declared.search.Arrival.{Arrival}
use Rattle.un_path.specs.declared.search.Coming.{Coming}
use Rattle.un_path.specs.Costs.{step_cost}
use Rattle.un_path.specs.Search.{IsPendingIn, IsSettledAt, free_count, IsNext, TakesFirst}
use Rattle.un_path.proofs.Pushing.{free_at}
use Rattle.un_path.proofs.Searching.{first_next, next_by, done_by}
use Rattle.un_path.proofs.search.best_arrivals.Goals as goal

pub settle-requires-clause-next : goal.settle-requires-clause-next
settle-requires-clause-next g c =
    let G = g.G.Ground.stars_and_areas c.args.over.now in
    let nodes : List Node = c.args.nodes.now in
    let arrivals : List (Option Arrival) = c.deref_mut.result.now in
    let items : arrivals ≡ c.in_ok-arrivals.arrivals.items = c.deref_mut.ensures.value in
    let none : (i : ℕ) → IsSettledAt arrivals i → ⊥ = subst (λ (l : List (Option Arrival)). (i : ℕ) → IsSettledAt l i → ⊥) (sym items) c.in_ok-arrivals.ensures.free in
    let count : length arrivals ≡ length nodes = ap length items ∙ c.in_ok-arrivals.ensures.count in
    let free : free_count arrivals ≡ length nodes = ap free_count items ∙ c.in_ok-arrivals.ensures.free_count in
    first_next (leads G c.args.barriers.now Any) (step_cost G c.args.barriers.now c.args.weight) nodes c.args.start arrivals (IsPendingIn c.new-pending.result.data.items) c.requires.inside count free
    (free_at arrivals c.args.start (let e = c.requires.inside in omega (arith, count)) none) none
    (λ e pending. (let bare = ap length c.new-pending.ensures.items in absurd (omega (arith, pending.1, bare))))

pub settle-requires-in-Some-clause-next : goal.settle-requires-in-Some-clause-next
settle-requires-in-Some-clause-next g c =
    let G = g.G.Ground.stars_and_areas c.args.over.now in
    let nodes : List Node = c.args.nodes.now in
    let arrivals : List (Option Arrival) = c.loop-coming.arrivals.items in
    let x : Coming = c.in-Some.coming in
    let taken : TakesFirst arrivals c.loop-coming.pending.data.items c.take_first.new.pending.data.items x =
    subst (λ (l : List (Option Arrival)). TakesFirst l c.loop-coming.pending.data.items c.take_first.new.pending.data.items x) c.deref.ensures.value c.in-Some.ensures.some in
    subst (λ (l : List (Option Arrival)). IsNext (leads G c.args.barriers.now Any) (step_cost G c.args.barriers.now c.args.weight) nodes c.args.start l (IsPendingIn c.take_first.new.pending.data.items) x)
    (sym c.deref_mut-in-Some.ensures.value)
    (next_by (leads G c.args.barriers.now Any) (step_cost G c.args.barriers.now c.args.weight) nodes c.args.start arrivals (IsPendingIn c.loop-coming.pending.data.items) c.loop-coming.invariant.way x
    (IsPendingIn c.take_first.new.pending.data.items) c.loop-coming.invariant.begun taken.was taken.free taken.left taken.only taken.least)

pub returns : goal.returns
returns g c =
    let G = g.G.Ground.stars_and_areas c.args.over.now in
    let nodes : List Node = c.args.nodes.now in
    let arrivals : List (Option Arrival) = c.loop-coming.arrivals.items in
    done_by (leads G c.args.barriers.now Any) (step_cost G c.args.barriers.now c.args.weight) nodes c.args.start arrivals (IsPendingIn c.loop-coming.pending.data.items) c.loop-coming.invariant.way
    c.loop-coming.invariant.begun
    (λ e pending. subst (λ (l : List (Option Arrival)). IsSettledAt l e.place) c.deref.ensures.value (c.in_default.ensures.none e pending))
