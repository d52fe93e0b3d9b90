use Rattle.std.proofs.Common.{◌≡◌, length, ap, subst, arith}
use Rattle.un_defs.specs.Reach.{IsReach, leads}
use Rattle.un_defs.specs.declared.walk.Mode.TheVariants.{Any}
use Rattle.un_loops.specs.Answer.{reached_of, IsReachOf}
use Rattle.un_loops.proofs.Reaching.{reach_unique, on_ok_any}
use Rattle.un_loops.proofs.answer.loops.Goals as goal

pub returns-in-Some-clause-ticks : goal.returns-in-Some-clause-ticks
returns-in-Some-clause-ticks g c = λ reached reach once.
    let G = g.G.Ground.stars_and_areas c.args.over.now in
    let ask = c.args.ask.now in
    let found = reached_of c.in_ok-reached.reached.found in
    let is_reach : IsReachOf G ask found = subst (λ s. IsReach (leads G ask.barriers Any) s found) c.as_slice.ensures c.in_ok-reached.ensures.nodes in
    let same : reached ≡ found = reach_unique (leads G ask.barriers Any) ask.starts reached found reach is_reach in
    omega (arith, c.in_ok-reached.ensures.ticks once, ap length same)

pub returns-clause-ticks : goal.returns-clause-ticks
returns-clause-ticks g c = λ reached reach once.
    let G = g.G.Ground.stars_and_areas c.args.over.now in
    let ask = c.args.ask.now in
    let found = reached_of c.in_ok-reached.reached.found in
    let is_reach : IsReachOf G ask found = subst (λ s. IsReach (leads G ask.barriers Any) s found) c.as_slice.ensures c.in_ok-reached.ensures.nodes in
    let same : reached ≡ found = reach_unique (leads G ask.barriers Any) ask.starts reached found reach is_reach in
    on_ok_any c.loops_among.result (omega (arith, c.in_ok-reached.ensures.ticks once, ap length same))
