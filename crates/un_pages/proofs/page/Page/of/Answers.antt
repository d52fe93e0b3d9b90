use Rattle.std.specs.Arc.{arc_value}
use Rattle.un_pages.proofs.Nodes.{page_one}
use Rattle.un_pages.proofs.page.Page.of.Goals as goal

pub invariant_of-result : goal.invariant_of-result
invariant_of-result g c = rw c.in_ok-one.ensures (page_one g.K.Ord.cmp (c.args.key, arc_value c.args.value))
