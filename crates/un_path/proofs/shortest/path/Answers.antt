use Rattle.std.proofs.Common.{◌≡◌, List, Option, None, inl, sym, ap, subst, ◌∙◌}
use Rattle.un_defs.specs.declared.port.Node.{Node}
use Rattle.un_defs.specs.declared.walk.Mode.TheVariants.{Any}
use Rattle.un_defs.specs.declared.walk.Dirt.{Dirt}
use Rattle.un_defs.specs.Reach.{leads, dirt}
use Rattle.un_walk.specs.declared.seen.Seen.{Seen}
use Rattle.un_walk.specs.Seen.{nodes_of, HaveEntries}
use Rattle.un_ask.specs.declared.typed.PathAsk.{PathAsk}
use Rattle.un_path.specs.Answer.{IsReachFrom, path_of, path_given_dirt}
use Rattle.un_path.specs.Costs.{step_cost}
use Rattle.un_path.proofs.Found.{found_is}
use Rattle.un_path.proofs.Reaching.{are_reached, few_looked_up}
use Rattle.un_path.proofs.shortest.path.Goals as goal

pub returns-in-Some-clause-ticks : goal.returns-in-Some-clause-ticks
returns-in-Some-clause-ticks g c = λ reached reach.
    let G = g.G.Ground.stars_and_areas c.args.over.now in
    let ask : PathAsk = c.args.ask.now in
    few_looked_up G ask.barriers ask.from c.in_ok-reached.reached.seen.items reached c.args.steps.now c.reach_seen.new.steps c.in_ok-reached.ensures.nodes reach (c.in_ok-reached.ensures.ticks (inl c.requires.untiered))

pub returns-clause-ticks : goal.returns-clause-ticks
returns-clause-ticks g c = λ reached reach.
    let G = g.G.Ground.stars_and_areas c.args.over.now in
    let ask : PathAsk = c.args.ask.now in
    few_looked_up G ask.barriers ask.from c.in_ok-reached.reached.seen.items reached c.args.steps.now c.reach_seen.new.steps c.in_ok-reached.ensures.nodes reach (c.in_ok-reached.ensures.ticks (inl c.requires.untiered))

pub path_among-requires-clause-reached : goal.path_among-requires-clause-reached
path_among-requires-clause-reached g c =
    let G = g.G.Ground.stars_and_areas c.args.over.now in
    let ask : PathAsk = c.args.ask.now in
    let seen : List Seen = c.as_slice.result.now in
    let nodes : List Node = c.as_slice-2.result.now in
    let items : seen ≡ c.in_ok-reached.reached.seen.items = c.as_slice.ensures.value in
    let are : nodes ≡ nodes_of c.in_ok-reached.reached.seen.items = c.as_slice-2.ensures ∙ c.in_ok-nodes.ensures in
    let reach : IsReachFrom G ask.barriers ask.from nodes = subst (IsReachFrom G ask.barriers ask.from) (sym are) c.in_ok-reached.ensures.nodes in
    let entries : HaveEntries G seen = subst (HaveEntries G) (sym items) c.in_ok-reached.ensures.entries in
    let none : dirt G nodes ≡ None = ap (dirt G) are ∙ sym c.in_ok-reached.ensures.dirt ∙ c.in_default.is in
    are_reached G ask.barriers ask.from seen nodes (ap nodes_of items ∙ sym are) reach entries none c.requires.untiered c.requires.own_ports

pub returns-in-Some-clause-answer : goal.returns-in-Some-clause-answer
returns-in-Some-clause-answer g c =
    let G = g.G.Ground.stars_and_areas c.args.over.now in
    let ask : PathAsk = c.args.ask.now in
    let nodes : List Node = nodes_of c.in_ok-reached.reached.seen.items in
    record {
      reached = nodes;
      reach = c.in_ok-reached.ensures.nodes;
      is = c.on_dirty_ground.ensures ∙ sym (ap (λ (o : Option Dirt). path_given_dirt o G ask nodes) (sym c.in_ok-reached.ensures.dirt ∙ c.in-Some.is));
    }

pub returns-clause-answer : goal.returns-clause-answer
returns-clause-answer g c =
    let G = g.G.Ground.stars_and_areas c.args.over.now in
    let ask : PathAsk = c.args.ask.now in
    let nodes : List Node = c.as_slice-2.result.now in
    let are : nodes ≡ nodes_of c.in_ok-reached.reached.seen.items = c.as_slice-2.ensures ∙ c.in_ok-nodes.ensures in
    let none : dirt G nodes ≡ None = ap (dirt G) are ∙ sym c.in_ok-reached.ensures.dirt ∙ c.in_default.is in
    let reach : IsReachFrom G ask.barriers ask.from nodes = subst (IsReachFrom G ask.barriers ask.from) (sym are) c.in_ok-reached.ensures.nodes in
    record {
      reached = nodes;
      reach = reach;
      is = c.path_of.ensures
          ∙ ap path_of (found_is (leads G ask.barriers Any) (step_cost G ask.barriers ask.weight) ask.from ask.to ask.certificate nodes c.in_ok-found.found reach (c.requires.own_ports nodes reach none) c.in_ok-found.ensures)
          ∙ sym (ap (λ (o : Option Dirt). path_given_dirt o G ask nodes) none);
    }
