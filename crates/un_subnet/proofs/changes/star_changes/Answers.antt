use Rattle.std.proofs.Common.{sym, subst}
use Rattle.std.specs.List.Sorted.{IsStrictlySortedBy}
use Rattle.un_geom.specs.Places.{point_cmp}
use Rattle.un_defs.proofs.OrderLaws.{point_total}
use Rattle.un_defs.proofs.Rising.{sorted-rising}
use Rattle.un_subnet.proofs.changes.star_changes.Goals as goal

pub invariant_of-result : goal.invariant_of-result
invariant_of-result g c = subst (IsStrictlySortedBy point_cmp) (sym c.sorted_points.ensures) (sorted-rising point_total c.points.inside.points.items)
