use Rattle.std.proofs.Common.{◌≡◌, ◌∙◌, subst}
use Rattle.std.specs.List.{dedup}
use Rattle.std.specs.List.Sorted.{IsSorted}
use Rattle.std.proofs.lemmas.List.Filters.{dedup_is}
use Rattle.un_geom.specs.Places.{point_cmp, same_point}
use Rattle.un_defs.proofs.OrderLaws.{point_total, point_ties}
use Rattle.un_subnet.proofs.Alike.{points_alike, equal_points_alike}
use Rattle.un_defs.proofs.SameStar.{points}
use Rattle.un_subnet.proofs.Sorting.{sorted_once}
use Rattle.un_subnet.proofs.sorted.sorted_points.Goals as goal

pub returns : goal.returns
returns c =
    let sorted = c.sort_unstable.new.self.items in
    let in_order : IsSorted point_cmp sorted = subst (λ cmp. IsSorted cmp sorted) points_alike c.sort_unstable.ensures.sorted in
    let kept : c.dedup.new.self.items ≡ dedup same_point sorted = dedup_is _ _ _ c.dedup.ensures.filtered ∙ (λ i. dedup (equal_points_alike i) sorted) in
    sorted_once point_total point_ties same_point points c.args.points.items sorted c.dedup.new.self.items c.sort_unstable.ensures.permutation in_order kept
