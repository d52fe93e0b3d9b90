use Rattle.std.proofs.Common.{◌≡◌, ◌==◌}
use Rattle.std.specs.List.{dedup}
use Rattle.std.specs.FinMap.{nat_cmp-IsAntisymmetric}
use Rattle.std.proofs.lemmas.Cmp.{nat_cmp_total}
use Rattle.std.proofs.lemmas.List.Filters.{dedup_is}
use Rattle.un_defs.proofs.SameStar.{numbers}
use Rattle.un_subnet.proofs.Sorting.{sorted_once}
use Rattle.un_subnet.proofs.sorted.sorted_ids.Goals as goal

pub returns : goal.returns
returns c =
    let sorted = c.sort_unstable.new.self.items in
    let kept : c.dedup.new.self.items ≡ dedup ◌==◌ sorted = dedup_is _ _ _ c.dedup.ensures.filtered in
    sorted_once nat_cmp_total nat_cmp-IsAntisymmetric ◌==◌ numbers c.args.ids.items sorted c.dedup.new.self.items c.sort_unstable.ensures.permutation c.sort_unstable.ensures.sorted kept
