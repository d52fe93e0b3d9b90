use Rattle.std.proofs.Common.{◌==◌, ◌∙◌, ap}
use Rattle.std.specs.List.{list_any}
use Rattle.un_assoc.proofs.ByPort.{has_none, has_some}
use Rattle.un_assoc.proofs.controllers.Controllers.has.Goals as goal

pub returns-in-Some : goal.returns-in-Some
returns-in-Some c =
    has_some c.args.feature c.self.inside.pairs c.range.result c.self.invariant c.len-len.ensures.ordered c.range.ensures.pairs
    (c.in-Some.port, c.in-Some.field-0-1.now.value) c.next.new.self c.in-Some.ensures.steps
    ∙ ap (list_any (λ x. x.port.feature == c.args.feature)) c.self.view_is

pub returns-in-None : goal.returns-in-None
returns-in-None c =
    has_none c.args.feature c.self.inside.pairs c.range.result c.self.invariant c.len-len.ensures.ordered c.range.ensures.pairs c.in-None.ensures.steps.0
    ∙ ap (list_any (λ x. x.port.feature == c.args.feature)) c.self.view_is
