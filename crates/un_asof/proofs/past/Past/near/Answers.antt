use Rattle.std.proofs.Common.{ℕ, List, subst}
use Rattle.un_asof.specs.Pasts.{IsNearest, pair_of}
use Rattle.un_asof.proofs.Keeping.{counted_views, nearest_view}
use Rattle.un_asof.proofs.Standing.{nearest_stands}
use Rattle.un_asof.proofs.past.Past.near.Goals as goal

pub overflow_sub-count : goal.overflow_sub-count
overflow_sub-count g c =
    let count = rw c.deref.ensures.value at c.count_up_to-count.ensures.count in
    (counted_views c.self.inside.kept.items c.args.at c.count_up_to-count.result c.self.invariant.0 count).0

pub returns-clause-nearest : goal.returns-clause-nearest
returns-clause-nearest g c =
    let count = rw c.deref.ensures.value at c.count_up_to-count.ensures.count in
    subst (λ (l : List (ℕ × g.row.M.Denot)). IsNearest l c.args.at (pair_of c.index-view.result.now)) c.self.view_is
    (nearest_view c.self.inside.kept.items c.args.at c.count_up_to-count.result c.index-view.result.now c.self.invariant.0 count c.index-view.ensures)

pub returns-clause-stands : goal.returns-clause-stands
returns-clause-stands g c log stands =
    nearest_stands g.M.Machine.step g.J.BoardName.opening log c.args.self.now c.args.at (pair_of c.index-view.result.now) (returns-clause-nearest g c) stands
