use Rattle.std.proofs.Common.{◌≡◌, [], map, length, sym, ap, ◌∙◌, arith}
use Rattle.un_trace.specs.Functions.{total_of}
use Rattle.un_trace.proofs.PortsAlone.{asks_no_entries, alone_result}
use Rattle.un_trace.proofs.answer.ports_result.Goals as goal

pub returns : goal.returns
returns c = λ G ns told.
    let ask = c.args.ask.now in
    let counted : c.len.result ≡ length c.args.features.items = omega (arith, c.len.ensures, c.args.features.ok) in
    alone_result G ask ns [] c.len.result c.no_ids-containers.result c.no_ids-content.result c.no_ids-structures.result c.new.result c.in_ok-functions.functions
    (asks_no_entries ask c.requires)
    c.no_ids-containers.ensures
    c.no_ids-content.ensures
    c.no_ids-structures.ensures
    (c.new.ensures ∙ told)
    (counted ∙ ap length (sym c.new.ensures))
    (c.in_ok-functions.ensures ∙ ap (map (total_of [] c.len.result)) c.as_slice.ensures)
