use Rattle.std.proofs.Common.{◌≡◌, List, None, inl, sym, ap, subst, ◌∙◌}
use Rattle.un_defs.specs.declared.port.Node.{Node}
use Rattle.un_defs.specs.declared.walk.Mode.TheVariants.{Any}
use Rattle.un_defs.specs.Reach.{IsReach, leads, dirt}
use Rattle.un_walk.specs.declared.seen.Seen.{Seen}
use Rattle.un_walk.specs.Seen.{nodes_of, HaveEntries}
use Rattle.un_ask.specs.declared.typed.DiagramAsk.{DiagramAsk}
use Rattle.un_diagram.specs.Answer.{IsReachOf}
use Rattle.un_diagram.proofs.Reaching.{are_reached, few_looked_up, on_ok_any}
use Rattle.un_diagram.proofs.drawing.diagram.Goals as goal

pub returns-in-Some-clause-ticks : goal.returns-in-Some-clause-ticks
returns-in-Some-clause-ticks g c = λ reached reach.
    let G = g.G.Ground.stars_and_areas c.args.over.now in
    let ask : DiagramAsk = c.args.ask.now in
    few_looked_up G ask c.in_ok-reached.reached.seen.items reached c.args.steps.now c.reach_seen.new.steps
    (subst (λ s. IsReach (leads G ask.barriers Any) s (nodes_of c.in_ok-reached.reached.seen.items)) c.as_slice.ensures c.in_ok-reached.ensures.nodes) reach (c.in_ok-reached.ensures.ticks (inl c.requires.untiered))

pub returns-clause-ticks : goal.returns-clause-ticks
returns-clause-ticks g c = λ reached reach.
    let G = g.G.Ground.stars_and_areas c.args.over.now in
    let ask : DiagramAsk = c.args.ask.now in
    on_ok_any c.drawn.result (few_looked_up G ask c.in_ok-reached.reached.seen.items reached c.args.steps.now c.reach_seen.new.steps
    (subst (λ s. IsReach (leads G ask.barriers Any) s (nodes_of c.in_ok-reached.reached.seen.items)) c.as_slice.ensures c.in_ok-reached.ensures.nodes) reach (c.in_ok-reached.ensures.ticks (inl c.requires.untiered)))

pub drawn-requires : goal.drawn-requires
drawn-requires g c =
    let G = g.G.Ground.stars_and_areas c.args.over.now in
    let ask : DiagramAsk = c.args.ask.now in
    let seen : List Seen = c.as_slice-2.result.now in
    let nodes : List Node = c.as_slice-3.result.now in
    let found : IsReachOf G ask (nodes_of c.in_ok-reached.reached.seen.items) = subst (λ s. IsReach (leads G ask.barriers Any) s (nodes_of c.in_ok-reached.reached.seen.items)) c.as_slice.ensures c.in_ok-reached.ensures.nodes in
    let items : seen ≡ c.in_ok-reached.reached.seen.items = c.as_slice-2.ensures.value in
    let are : nodes ≡ nodes_of c.in_ok-reached.reached.seen.items = c.as_slice-3.ensures ∙ c.in_ok-nodes.ensures in
    let reach : IsReachOf G ask nodes = subst (IsReachOf G ask) (sym are) found in
    let entries : HaveEntries G seen = subst (HaveEntries G) (sym items) c.in_ok-reached.ensures.entries in
    let none : dirt G nodes ≡ None = ap (dirt G) are ∙ sym c.in_ok-reached.ensures.dirt ∙ c.in_default.is in
    are_reached G ask seen nodes (ap nodes_of items ∙ sym are) reach entries none c.requires.untiered c.requires.linked
