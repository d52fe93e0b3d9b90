use Rattle.std.proofs.Common.{◌≡◌, length, ap, subst, arith}
use Rattle.std.proofs.lemmas.List.{length-map}
use Rattle.un_defs.specs.Reach.{IsReach, leads}
use Rattle.un_defs.specs.declared.walk.Mode.TheVariants.{Any}
use Rattle.un_walk.specs.Seen.{node_of, nodes_of}
use Rattle.un_isolate.specs.Answer.{IsReachOf}
use Rattle.un_isolate.proofs.Reaching.{reach_unique, on_ok_any}
use Rattle.un_isolate.proofs.answer.isolate.Goals as goal

pub returns-in-Some-clause-ticks : goal.returns-in-Some-clause-ticks
returns-in-Some-clause-ticks g c = λ reached reach once.
    let G = g.G.Ground.stars_and_areas c.args.over.now in
    let ask = c.args.ask.now in
    let seen = c.in_ok-reached.reached.seen.items in
    let found : IsReachOf G ask (nodes_of seen) = subst (λ s. IsReach (leads G ask.barriers Any) s (nodes_of seen)) c.as_slice.ensures c.in_ok-reached.ensures.nodes in
    let same : reached ≡ nodes_of seen = reach_unique (leads G ask.barriers Any) ask.starts reached (nodes_of seen) reach found in
    omega (arith, c.in_ok-reached.ensures.ticks once, ap length same, length-map seen node_of)

pub returns-clause-ticks : goal.returns-clause-ticks
returns-clause-ticks g c = λ reached reach once.
    let G = g.G.Ground.stars_and_areas c.args.over.now in
    let ask = c.args.ask.now in
    let seen = c.in_ok-reached.reached.seen.items in
    let found : IsReachOf G ask (nodes_of seen) = subst (λ s. IsReach (leads G ask.barriers Any) s (nodes_of seen)) c.as_slice.ensures c.in_ok-reached.ensures.nodes in
    let same : reached ≡ nodes_of seen = reach_unique (leads G ask.barriers Any) ask.starts reached (nodes_of seen) reach found in
    on_ok_any c.isolation_among.result (omega (arith, c.in_ok-reached.ensures.ticks once, ap length same, length-map seen node_of))
