use Rattle.std.proofs.Common.{◌≡◌, Bool, false, ◌||◌, sym, ap, ◌∙◌}
use Rattle.std.specs.List.{list_any}
use Rattle.un_trace.specs.Ports.{includes_any, reads_entries}
use Rattle.un_trace.specs.TraceReply.{lists_controllers}
use Rattle.un_trace.proofs.answer.tells_entries.Goals as goal

pub returns : goal.returns
returns c =
    let ask = c.args.ask.now in
    let last : Bool = list_any reads_entries ask.functions in
    let included : includes_any ask.include ≡ false = sym c.includes_any.ensures ∙ c.if-includes_any.false in
    let controllers : lists_controllers ask.kind ≡ false = sym c.lists_controllers.ensures ∙ c.if-lists_controllers.false in
    c.any_reads_entries.ensures ∙ ap (list_any reads_entries) c.as_slice.ensures
    ∙ sym (ap (λ b. b || (lists_controllers ask.kind || last)) included ∙ ap (λ b. b || last) controllers)
