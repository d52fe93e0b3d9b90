use Rattle.std.proofs.Common.{◌≡◌, List, None, if◌then◌else◌, length, sym, ap, subst₂, ◌∙◌, arith}
use Rattle.un_defs.specs.declared.port.Node.{Node}
use Rattle.un_defs.specs.Orders.{node_cmp, rising}
use Rattle.un_defs.specs.Reach.{IsReach, leads, dirt}
use Rattle.un_walk.specs.Found.{nodes}
use Rattle.un_trace.specs.TraceReply.{mode_of, clean_reply, IsAnswer}
use Rattle.un_trace.proofs.Answered.{reach_unique}
use Rattle.un_trace.proofs.Whole.{on_ok_any, if_ok_map, answers_clean}
use Rattle.un_trace.proofs.answer.trace.Goals as goal

pub returns-in-Some-clause-ticks : goal.returns-in-Some-clause-ticks
returns-in-Some-clause-ticks g c = λ reached reach once.
    let G = g.G.Ground.stars_and_areas c.args.over.now in
    let ask = c.args.ask.now in
    let ns : List Node = rising node_cmp (nodes c.in_ok-reached.reached.found) in
    let found : IsReach (leads G ask.barriers (mode_of ask.kind)) ask.starts ns =
    subst₂ (λ m s. IsReach (leads G ask.barriers m) s ns) c.mode_of-mode.ensures c.as_slice.ensures c.in_ok-reached.ensures.nodes in
    let same : reached ≡ ns = reach_unique (leads G ask.barriers (mode_of ask.kind)) ask.starts reached ns reach found in
    omega (arith, c.in_ok-reached.ensures.ticks once, ap length same)

pub returns-clause-ticks : goal.returns-clause-ticks
returns-clause-ticks g c = λ reached reach once.
    let G = g.G.Ground.stars_and_areas c.args.over.now in
    let ask = c.args.ask.now in
    let ns : List Node = rising node_cmp (nodes c.in_ok-reached.reached.found) in
    let found : IsReach (leads G ask.barriers (mode_of ask.kind)) ask.starts ns =
    subst₂ (λ m s. IsReach (leads G ask.barriers m) s ns) c.mode_of-mode.ensures c.as_slice.ensures c.in_ok-reached.ensures.nodes in
    let same : reached ≡ ns = reach_unique (leads G ask.barriers (mode_of ask.kind)) ask.starts reached ns reach found in
    on_ok_any c.found_reply.result (omega (arith, c.in_ok-reached.ensures.ticks once, ap length same))

pub returns-clause-answer : goal.returns-clause-answer
returns-clause-answer g c =
    let G = g.G.Ground.stars_and_areas c.args.over.now in
    let ask = c.args.ask.now in
    let ns : List Node = rising node_cmp (nodes c.in_ok-reached.reached.found) in
    let found : IsReach (leads G ask.barriers (mode_of ask.kind)) ask.starts ns =
    subst₂ (λ m s. IsReach (leads G ask.barriers m) s ns) c.mode_of-mode.ensures c.as_slice.ensures c.in_ok-reached.ensures.nodes in
    let clean : None ≡ (if ask.barriers.consistent then dirt G ns else None) =
    sym c.in-None.is ∙ c.dirt_that_matters.ensures ∙ ap (λ d. if ask.barriers.consistent then d else None) c.in_ok-reached.ensures.dirt in
    if_ok_map c.found_reply.result (λ r. r ≡ clean_reply G ask ns) (IsAnswer G ask) (answers_clean G ask ns found clean) c.found_reply.ensures
