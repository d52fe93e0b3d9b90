use Rattle.std.proofs.Common.{◌∙◌, ap, sym}
use Rattle.un_assoc.specs.Containing.{container_of}
use Rattle.un_assoc.proofs.Holding.{container_is}
use Rattle.un_assoc.proofs.assocs.Assocs.container.Goals as goal

pub returns : goal.returns
returns c =
    c.of.ensures ∙ sym (container_is c.self.inside.containers.containers c.self.inside.containers.counts c.self.inside.by_id c.self.invariant.contained c.args.id)
    ∙ ap (λ l. container_of l.associations c.args.id) c.self.view_is
