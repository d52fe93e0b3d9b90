use Rattle.std.proofs.Common.{◌≤◌, ◌+◌, length, arith}
use Rattle.std.specs.BTreeMap.{insert_entry}
use Rattle.std.specs.Arc.{arc_value}
use Rattle.un_pages.proofs.Ordered.{insert_ordered}
use Rattle.un_pages.proofs.Nodes.{some_insert, length_insert}
use Rattle.un_pages.proofs.page.PageLevel.with.Goals as goal

pub packed-requires-clause-some : goal.packed-requires-clause-some
packed-requires-clause-some g c = rw c.in_ok-put.ensures (some_insert g.met.K.Ord.total c.args.key c.self.inside.row (arc_value c.args.value))

pub packed-requires-clause-bound : goal.packed-requires-clause-bound
packed-requires-clause-bound g c =
    let short : length (insert_entry g.K.Ord.cmp c.self.inside.row c.args.key (arc_value c.args.value)) ≤ length c.self.inside.row + 1 = length_insert g.met.K.Ord.total c.args.key c.self.inside.row (arc_value c.args.value) in
    rw c.in_ok-put.ensures (omega (arith, short, c.self.invariant.bound))

pub packed-requires-clause-ordered : goal.packed-requires-clause-ordered
packed-requires-clause-ordered g c = rw c.in_ok-put.ensures (insert_ordered g.met.K.Ord.total c.args.key c.self.inside.row (arc_value c.args.value) c.self.invariant.ordered)
