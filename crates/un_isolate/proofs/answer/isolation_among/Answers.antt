use Rattle.std.proofs.Common.{◌≡◌, ℕ, Bool, List, Option, sym, ap, subst, subst₂, ◌∙◌}
use Rattle.std.specs.Prelude.{slice_get}
use Rattle.std.proofs.lemmas.Result.{IfOk-weaker}
use Rattle.smallvec.specs.SmallVec.{SmallVec}
use Rattle.un_defs.specs.declared.port.Node.{Node}
use Rattle.un_defs.specs.declared.port.Port.{Port}
use Rattle.un_isolate.specs.declared.network.Network.{Network}
use Rattle.un_isolate.specs.Answer.{isolation_of, isolation_given_way}
use Rattle.un_isolate.specs.Isolation.{Isolation}
use Rattle.un_isolate.specs.Links.{LeadInside}
use Rattle.un_isolate.specs.Marks.{both_marks, marked_nodes}
use Rattle.un_isolate.specs.Network.{IsNetworkOf, IsBasis}
use Rattle.un_isolate.specs.Spread.{AreReached}
use Rattle.un_isolate.proofs.Cutting.{zone_marked, blocked_is, free_is}
use Rattle.un_isolate.proofs.answer.isolation_among.Goals as goal

pub spread-requires-clause-inside : goal.spread-requires-clause-inside
spread-requires-clause-inside g c = subst (λ (l : List (SmallVec ℕ)). LeadInside l) (sym c.deref.ensures.value) c.in_ok-network.ensures.whole.inside

pub returns-in-Some : goal.returns-in-Some
returns-in-Some g c =
    let G = g.G.Ground.stars_and_areas c.args.over.now in
    let ask = c.args.ask.now in
    let I : Isolation = isolation_of G ask in
    let reached : List Node = c.args.reached.now in
    let network : Network = c.in_ok-network.network in
    let zone : List Bool = c.in_ok-zone.zone.items in
    let is : IsNetworkOf I reached network = c.in_ok-network.ensures in
    let basis : IsBasis I reached = record { reach = c.requires.reach; own_ports = c.requires.fit.own_ports; clear = c.requires.fit.clear } in
    let spread : AreReached network.onward.items network.starts.items network.isolating.items zone =
    subst (λ (l : List (SmallVec ℕ)). AreReached l network.starts.items network.isolating.items zone) c.deref.ensures.value
    (subst₂ (λ (starts : List Bool) (closed : List Bool). AreReached c.deref.result.now starts closed zone) c.deref-2.ensures.value c.deref-3.ensures.value c.in_ok-zone.ensures) in
    let marked = zone_marked I reached network is basis zone spread in
    let way : c.in_ok-in_the_way.in_the_way.items ≡ both_marks zone network.controlled.items =
    c.in_ok-in_the_way.ensures ∙ (λ i. both_marks (c.deref-4.ensures.value i) (c.deref-5.ensures.value i)) in
    let nodes : c.deref-7.result.now ≡ marked_nodes reached (both_marks zone network.controlled.items) =
    c.deref-7.ensures.value ∙ c.in_ok-marked_nodes.ensures ∙ ap (marked_nodes reached) (c.deref-6.ensures.value ∙ way) in
    let blocked = blocked_is I reached network is basis zone marked c.in-Some.node.now (ap (λ l. slice_get l 0) (sym nodes) ∙ sym c.in-Some.ensures.value) in
    c.not_isolable.ensures ∙ sym (ap (λ (o : Option Port). isolation_given_way o I reached) blocked)

pub returns : goal.returns
returns g c =
    let G = g.G.Ground.stars_and_areas c.args.over.now in
    let ask = c.args.ask.now in
    let I : Isolation = isolation_of G ask in
    let reached : List Node = c.args.reached.now in
    let network : Network = c.in_ok-network.network in
    let zone : List Bool = c.in_ok-zone.zone.items in
    let is : IsNetworkOf I reached network = c.in_ok-network.ensures in
    let basis : IsBasis I reached = record { reach = c.requires.reach; own_ports = c.requires.fit.own_ports; clear = c.requires.fit.clear } in
    let spread : AreReached network.onward.items network.starts.items network.isolating.items zone =
    subst (λ (l : List (SmallVec ℕ)). AreReached l network.starts.items network.isolating.items zone) c.deref.ensures.value
    (subst₂ (λ (starts : List Bool) (closed : List Bool). AreReached c.deref.result.now starts closed zone) c.deref-2.ensures.value c.deref-3.ensures.value c.in_ok-zone.ensures) in
    let marked = zone_marked I reached network is basis zone spread in
    let way : c.in_ok-in_the_way.in_the_way.items ≡ both_marks zone network.controlled.items =
    c.in_ok-in_the_way.ensures ∙ (λ i. both_marks (c.deref-4.ensures.value i) (c.deref-5.ensures.value i)) in
    let nodes : c.deref-7.result.now ≡ marked_nodes reached (both_marks zone network.controlled.items) =
    c.deref-7.ensures.value ∙ c.in_ok-marked_nodes.ensures ∙ ap (marked_nodes reached) (c.deref-6.ensures.value ∙ way) in
    let free = free_is I reached network is basis zone marked (ap (λ l. slice_get l 0) (sym nodes) ∙ sym c.in-None.ensures.value) in
    IfOk-weaker c.cut_off.result _ _ (λ reply e. e ∙ sym (ap (λ (o : Option Port). isolation_given_way o I reached) free))
    (c.cut_off.ensures I (record { graph = is; basis = basis; marks = c.deref-in-None.ensures.value ∙ marked; free = free }))
