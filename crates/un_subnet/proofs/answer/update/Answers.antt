use Rattle.std.proofs.Common.{◌≡◌, length, ap, subst, arith}
use Rattle.un_defs.specs.Reach.{IsReach, leads}
use Rattle.un_defs.specs.declared.walk.Mode.TheVariants.{Any}
use Rattle.un_subnet.specs.Answer.{IsReachOf}
use Rattle.un_subnet.proofs.AloneReach.{reach_unique}
use Rattle.un_subnet.proofs.answer.update.Goals as goal

pub returns-in-Some-clause-ticks : goal.returns-in-Some-clause-ticks
returns-in-Some-clause-ticks g c = λ reached reach once.
    let G = g.G.Ground.stars_and_areas c.args.over.now in
    let ask = c.args.ask.now in
    let nodes = c.in_ok-reached.reached.nodes in
    let found : IsReachOf G ask nodes = subst (λ s. IsReach (leads G ask.barriers Any) s nodes) c.as_slice.ensures c.in_ok-reached.ensures.nodes in
    let same : reached ≡ nodes = reach_unique (leads G ask.barriers Any) ask.starts reached nodes reach found in
    omega (arith, c.in_ok-reached.ensures.ticks once, c.in_ok-refusal.ensures.ticks once, ap length same)

pub returns-clause-ticks : goal.returns-clause-ticks
returns-clause-ticks g c = λ reached reach once.
    let G = g.G.Ground.stars_and_areas c.args.over.now in
    let ask = c.args.ask.now in
    let nodes = c.in_ok-reached.reached.nodes in
    let found : IsReachOf G ask nodes = subst (λ s. IsReach (leads G ask.barriers Any) s nodes) c.as_slice.ensures c.in_ok-reached.ensures.nodes in
    let same : reached ≡ nodes = reach_unique (leads G ask.barriers Any) ask.starts reached nodes reach found in
    omega (arith, c.in_ok-reached.ensures.ticks once, c.in_ok-refusal.ensures.ticks once, ap length same)
