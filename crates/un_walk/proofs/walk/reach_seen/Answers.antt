use Rattle.std.proofs.Common.{length, ap, subst, ◌∙◌, arith}
use Rattle.std.proofs.lemmas.List.{length-map}
use Rattle.un_defs.specs.Reach.{IsReach, leads, dirt}
use Rattle.un_walk.specs.Seen.{node_of}
use Rattle.un_walk.proofs.walk.reach_seen.Goals as goal

pub returns-clause-nodes : goal.returns-clause-nodes
returns-clause-nodes g c =
    subst (IsReach (leads (g.G.Ground.stars_and_areas c.args.over.now) c.args.barriers.now c.args.mode) c.args.starts.now)
    c.in_ok-seen.ensures.nodes c.in_ok-reached.ensures.nodes

pub returns-clause-dirt : goal.returns-clause-dirt
returns-clause-dirt g c = c.in_ok-reached.ensures.dirt ∙ ap (dirt (g.G.Ground.stars_and_areas c.args.over.now)) c.in_ok-seen.ensures.nodes

pub returns-clause-ticks : goal.returns-clause-ticks
returns-clause-ticks g c = λ once.
    omega (arith, c.in_ok-reached.ensures.ticks once, ap length c.in_ok-seen.ensures.nodes, length-map c.in_ok-seen.seen.items node_of)
