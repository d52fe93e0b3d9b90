use Rattle.std.proofs.Common.{◌≡◌, ◌∙◌, [], filter_map, ap}
use Rattle.un_defs.specs.Features.{controllers_of}
use Rattle.un_defs.specs.Links.{node_at}
use Rattle.un_subnet.specs.Starts.{controller_nodes}
use Rattle.un_subnet.specs.Outcome.{update_ask}
use Rattle.un_subnet.proofs.Growing.{nodes_by_port}
use Rattle.un_subnet.proofs.ask.update_ask.Goals as goal

pub returns : goal.returns
returns g c =
    let F = g.D.Directory.features c.args.features.now in
    let tier = c.args.tier in
    let starts : c.new.result ≡ controller_nodes F tier c.args.subnet =
    c.new.ensures ∙ c.in_ok-starts.ensures ∙ ap (filter_map (node_at F)) (c.deref.ensures.value ∙ c.in_ok-ports.ensures)
    ∙ nodes_by_port F (controllers_of F tier c.text.result.now) ∙ ap (controller_nodes F tier) c.text.ensures.text in
    let functions : c.new-3.result ≡ [] = c.new-3.ensures ∙ c.new-2.ensures.items in
    λ i. record (update_ask F c.args.barrier c.args.disjoint tier c.args.subnet) { starts = starts i; barriers = c.tier_barriers.ensures i; functions = functions i }
