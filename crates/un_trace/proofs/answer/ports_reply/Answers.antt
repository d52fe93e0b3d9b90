use Rattle.std.proofs.Common.{◌≡◌, List, Option, IfSome, Vec, Global, sym, subst, ◌∙◌}
use Rattle.un_defs.specs.declared.port.Node.{Node}
use Rattle.un_defs.specs.Orders.{node_cmp, rising}
use Rattle.un_ask.specs.declared.results.Part.{Part}
use Rattle.un_walk.specs.Found.{nodes}
use Rattle.un_trace.specs.TraceReply.{parts, nodes_in_result}
use Rattle.un_trace.proofs.PortsAlone.{asks_no_entries, alone_reply}
use Rattle.un_trace.proofs.answer.ports_reply.Goals as goal

pub ports_result-requires : goal.ports_result-requires
ports_result-requires g c = sym c.tells_entries.ensures ∙ c.if-tells_entries.false

pub returns : goal.returns
returns g c =
    let G = g.G.Ground.stars_and_areas c.args.over.now in
    let ask = c.args.ask.now in
    let reached : List Node = rising node_cmp (nodes c.args.found.now) in
    let told : c.in-Some.features.items ≡ parts (nodes_in_result G ask reached) =
    subst (λ (o : Option (Vec Part Global)). IfSome o (λ v. v.items ≡ parts (nodes_in_result G ask reached))) c.in-Some.is c.in_ok-features.ensures in
    alone_reply G ask reached c.in_ok-result.result
    (asks_no_entries ask (sym c.tells_entries.ensures ∙ c.if-tells_entries.false))
    (c.in_ok-result.ensures G (nodes_in_result G ask reached) told)
