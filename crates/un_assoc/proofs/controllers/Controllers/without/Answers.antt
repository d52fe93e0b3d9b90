use Rattle.std.proofs.Common.{not, ◌∙◌, ap, sym, subst}
use Rattle.std.specs.List.{filter}
use Rattle.std.specs.Map.{values_of}
use Rattle.un_defs.specs.Orders.{same_port}
use Rattle.un_assoc.specs.Indexes.{AreKeyed}
use Rattle.un_assoc.proofs.ByPort.{by_port_removed_keys, by_port_removed}
use Rattle.un_assoc.proofs.controllers.Controllers.without.Goals as goal

pub invariant_of-result : goal.invariant_of-result
invariant_of-result c = subst (AreKeyed (λ x. x.port)) (sym c.in_ok-pairs.ensures) (by_port_removed_keys c.args.port c.self.inside.pairs c.self.invariant)

pub returns : goal.returns
returns c =
    ap values_of c.in_ok-pairs.ensures ∙ by_port_removed c.args.port c.self.inside.pairs c.len-len.ensures.ordered c.self.invariant
    ∙ ap (filter (λ x. not (same_port x.port c.args.port))) c.self.view_is
