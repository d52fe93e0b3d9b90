use Rattle.std.proofs.Common.{◌≡◌, None, find, sym, ◌∙◌, ap, subst}
use Rattle.std.specs.Map.{values_of}
use Rattle.std.specs.BTreeSet.{insert_key}
use Rattle.un_defs.specs.Orders.{same_port}
use Rattle.un_defs.specs.Result.{controller_cmp}
use Rattle.un_assoc.specs.Indexes.{AreKeyed}
use Rattle.un_assoc.proofs.ByPort.{by_port_keys, by_port_new}
use Rattle.un_assoc.proofs.controllers.Controllers.with.Goals as goal

pub invariant_of-result : goal.invariant_of-result
invariant_of-result c = subst (AreKeyed (λ x. x.port)) (sym c.in_ok-pairs.ensures) (by_port_keys c.args.controller c.self.inside.pairs c.self.invariant)

pub returns : goal.returns
returns c =
    let free = subst (λ l. find (λ x. same_port x.port c.args.controller.port) l ≡ None) (sym c.self.view_is) c.requires in
    ap values_of c.in_ok-pairs.ensures ∙ by_port_new c.args.controller c.self.inside.pairs c.self.invariant free ∙ ap (λ l. insert_key controller_cmp l c.args.controller) c.self.view_is
