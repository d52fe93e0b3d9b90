use Rattle.un_pages.proofs.Nodes.{counted_remove}
use Rattle.un_pages.proofs.paged.Paged.without_found.Goals as goal

pub invariant_of-result : goal.invariant_of-result
invariant_of-result g c =
    let counted = rw c.self.view_is at c.self.invariant in
    let rest = rw c.in-Some.is at c.in_ok-rest.ensures in
    rw c.in_ok-new-in-Some.ensures.ok (counted_remove g.met.K.Ord.total c.args.key.now c.args.self.now _ _ counted c.requires rest)
