use Rattle.std.proofs.Common.{◌≡◌, ℕ, true, false, List, [], length, Option, Some, Result, Ok, Err, refl, sym, ap, subst, ◌∙◌, true≢false, Vec, Global}
use Rattle.std.specs.Prelude.{IfOk, IsSome}
use Rattle.std.proofs.lemmas.Option.{slice_get_within}
use Rattle.un_defs.specs.declared.port.Node.{Node}
use Rattle.un_defs.specs.declared.walk.Mode.TheVariants.{Any}
use Rattle.un_defs.specs.Reach.{leads}
use Rattle.un_ask.specs.declared.results.Label.{Label}
use Rattle.un_ask.specs.declared.typed.PathAsk.{PathAsk}
use Rattle.un_path.specs.declared.search.Arrival.{Arrival}
use Rattle.un_path.specs.Costs.{step_cost}
use Rattle.un_path.specs.Search.{AreAllSettled, CanTrace, AreLabelsOf, IsFoundAt}
use Rattle.un_path.proofs.Places.{place_from}
use Rattle.un_path.proofs.Reaching.{reached_from}
use Rattle.un_path.proofs.Traced.{can_trace, all_settled, path_found}
use Rattle.un_path.proofs.shortest.path_among.Goals as goal
use Rattle.un_path.proofs.shortest.path_among.Goals.{then-ask+in_ok-labels, else-ask}

found_at : (o : Option ℕ) (p : ℕ) → o ≡ Some p → IsSome o
found_at o p e = subst IsSome (sym e) refl

pub unwrap-start-requires : goal.unwrap-start-requires
unwrap-start-requires g c =
    let G = g.G.Ground.stars_and_areas c.args.over.now in
    let ask : PathAsk = c.args.ask.now in
    let place = place_from c.args.nodes.now ask.from (reached_from G ask.barriers ask.from c.args.nodes.now c.requires.reach) in
    found_at c.place_of.result place.0 ((c.place_of.ensures place.0).1 place.1)

pub best_arrivals-requires-clause-inside : goal.best_arrivals-requires-clause-inside
best_arrivals-requires-clause-inside g c =
    slice_get_within c.args.nodes.now c.unwrap-start.result c.args.ask.now.from ((c.place_of.ensures c.unwrap-start.result).0 c.unwrap-start.ensures)

pub labels_of-requires : goal.labels_of-requires
labels_of-requires g c =
    let G = g.G.Ground.stars_and_areas c.args.over.now in
    let ask : PathAsk = c.args.ask.now in
    let at = (c.place_of.ensures c.unwrap-start.result).0 c.unwrap-start.ensures in
    record {
      settled = subst (AreAllSettled c.args.nodes.now) (sym c.deref.ensures.value)
          (all_settled (leads G ask.barriers Any) (step_cost G ask.barriers ask.weight) c.args.nodes.now c.requires.reached.rising c.unwrap-start.result ask.from at c.in_ok-arrivals.arrivals.items c.in_ok-arrivals.ensures
          c.requires.reached.closed c.requires.reach);
    }

pub found_to-requires-clause-settled : goal.found_to-requires-clause-settled
found_to-requires-clause-settled g c =
    let G = g.G.Ground.stars_and_areas c.args.over.now in
    let ask : PathAsk = c.args.ask.now in
    let at = (c.place_of.ensures c.unwrap-start.result).0 c.unwrap-start.ensures in
    subst (AreAllSettled c.args.nodes.now) (sym c.deref-2.ensures.value)
    (all_settled (leads G ask.barriers Any) (step_cost G ask.barriers ask.weight) c.args.nodes.now c.requires.reached.rising c.unwrap-start.result ask.from at c.in_ok-arrivals.arrivals.items c.in_ok-arrivals.ensures
    c.requires.reached.closed c.requires.reach)

pub found_to-requires-clause-trace : goal.found_to-requires-clause-trace
found_to-requires-clause-trace g c =
    let G = g.G.Ground.stars_and_areas c.args.over.now in
    let ask : PathAsk = c.args.ask.now in
    let at = (c.place_of.ensures c.unwrap-start.result).0 c.unwrap-start.ensures in
    subst (CanTrace c.args.nodes.now) (sym c.deref-2.ensures.value)
    (can_trace (leads G ask.barriers Any) (step_cost G ask.barriers ask.weight) c.args.nodes.now c.requires.reached.rising c.unwrap-start.result ask.from at c.in_ok-arrivals.arrivals.items c.in_ok-arrivals.ensures)

both_ok : {A E : Type 0} {P Q S : A → Type 0} (r : Result A E) → IfOk r P → IfOk r Q → ((x : A) → P x → Q x → S x) → IfOk r S
both_ok (Ok x) p q f = f x p q
both_ok (Err e) p q f = tt

pub returns : goal.returns
returns g c =
    let G = g.G.Ground.stars_and_areas c.args.over.now in
    let ask : PathAsk = c.args.ask.now in
    let nodes : List Node = c.args.nodes.now in
    let reached = c.requires.reached in
    let at = (c.place_of.ensures c.unwrap-start.result).0 c.unwrap-start.ensures in
    let arrivals : List (Option Arrival) = c.in_ok-arrivals.arrivals.items in
    let labels : List Label = c.if-ask.labels.items in
    let full : ask.certificate ≡ true → AreLabelsOf nodes arrivals labels (length nodes) = λ asked. elim c.if-ask.branch [
      | then-ask+in_ok-labels v ↦
          subst (λ (l : List Label). AreLabelsOf nodes arrivals l (length nodes)) (sym (ap (λ (w : Vec Label Global). w.items) v.labels-is))
          (subst (λ (l : List (Option Arrival)). AreLabelsOf nodes l v.in_ok-labels.labels.items (length nodes)) v.deref.ensures.value v.in_ok-labels.ensures)
      | else-ask v ↦ absurd (true≢false (sym asked ∙ v.if-ask.false))
    ] in
    let bare : ask.certificate ≡ false → labels ≡ [] = λ unasked. elim c.if-ask.branch [
      | then-ask+in_ok-labels v ↦ absurd (true≢false (sym v.if-ask.true ∙ unasked))
      | else-ask v ↦ ap (λ (w : Vec Label Global). w.items) v.labels-is ∙ v.new-labels.ensures.items
    ] in
    both_ok c.found_to.result c.found_to.ensures.found c.found_to.ensures.labels (λ found here same.
    path_found (leads G ask.barriers Any) (step_cost G ask.barriers ask.weight) nodes reached.rising c.unwrap-start.result ask.from at arrivals c.in_ok-arrivals.ensures reached.closed c.requires.reach
    reached.own_ports ask.to ask.certificate labels found (subst (λ (l : List (Option Arrival)). IsFoundAt nodes l ask.to found) c.deref-2.ensures.value here) (same ∙ c.new.ensures) full bare)
