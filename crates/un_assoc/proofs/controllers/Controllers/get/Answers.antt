use Rattle.std.proofs.Common.{◌∙◌, ap, find}
use Rattle.un_defs.specs.Orders.{same_port}
use Rattle.un_assoc.proofs.ByPort.{by_port_lookup}
use Rattle.un_assoc.proofs.controllers.Controllers.get.Goals as goal

pub returns : goal.returns
returns c = c.get.ensures ∙ by_port_lookup c.args.port c.self.inside.pairs c.self.invariant ∙ ap (find (λ x. same_port x.port c.args.port)) c.self.view_is
