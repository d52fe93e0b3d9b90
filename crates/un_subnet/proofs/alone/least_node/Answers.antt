use Rattle.std.proofs.Common.{◌∙◌, ap, slice_get}
use Rattle.un_defs.specs.Orders.{rising}
use Rattle.un_subnet.proofs.Alike.{nodes_alike}
use Rattle.un_subnet.proofs.alone.least_node.Goals as goal

pub returns : goal.returns
returns c =
    c.copied.ensures ∙ c.first.ensures.value ∙ ap (λ l. slice_get l 0) (c.deref.ensures.value ∙ c.in_ok-rising.ensures)
    ∙ (λ i. slice_get (rising (nodes_alike i) c.args.nodes.now) 0)
