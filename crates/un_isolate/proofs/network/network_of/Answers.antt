use Rattle.std.proofs.Common.{List, map, ap, ◌∙◌}
use Rattle.un_defs.specs.declared.port.Node.{Node}
use Rattle.un_isolate.specs.IsolationList.{has_node}
use Rattle.un_isolate.proofs.OverGround.{network_is}
use Rattle.un_isolate.proofs.network.network_of.Goals as goal

pub returns : goal.returns
returns g c =
    let G = g.G.Ground.stars_and_areas c.args._over.now in
    let ask = c.args.ask.now in
    let reached : List Node = c.args.reached.now in
    network_is G reached c.requires.clean c.args.seen.now c.requires.seen ask _
    (c.in_ok-start_marks.ensures ∙ ap (λ (starts : List Node). map (has_node starts) reached) c.as_slice.ensures)
    c.in_ok-isolating_marks.ensures c.in_ok-controlled_marks.ensures c.in_ok-links_onward.ensures
