use Rattle.std.proofs.Common.{◌∙◌}
use Rattle.std.specs.List.{dedup}
use Rattle.std.proofs.lemmas.List.Filters.{dedup_is}
use Rattle.un_core.proofs.Rects.{rects_alike, among_left, from_left}
use Rattle.un_core.proofs.changes.dedup.Goals as goal

pub returns : goal.returns
returns c =
    let old = c.args.rects.now.items in
    let sorted = c.sort_unstable.new.self.items in
    let is = dedup_is _ _ _ c.dedup.ensures.filtered ∙ (λ i. dedup (rects_alike i) sorted) in
    λ r. (from_left old sorted c.dedup.new.self.items c.sort_unstable.ensures.permutation is r, among_left old sorted c.dedup.new.self.items c.sort_unstable.ensures.permutation is r)
