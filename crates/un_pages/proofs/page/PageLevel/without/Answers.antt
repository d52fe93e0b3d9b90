use Rattle.std.proofs.Common.{arith}
use Rattle.un_pages.proofs.Nodes.{rest_page}
use Rattle.un_pages.proofs.page.PageLevel.without.Goals as goal

pub invariant_of-result : goal.invariant_of-result
invariant_of-result g c = rest_page g.met.K.Ord.total c.args.key.now c.self.inside.row _ c.self.invariant c.in_ok-row.ensures (omega arith)
