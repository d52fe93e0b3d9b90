use Rattle.std.proofs.Common.{◌∙◌}
use Rattle.std.specs.Prelude.{not}
use Rattle.un_dirty.specs.Areas.{has_area}
use Rattle.un_dirty.proofs.Walking.{gathered_none}
use Rattle.un_dirty.proofs.dirty.areas_gone.Goals as goal

pub loop-number-init : goal.loop-number-init
loop-number-init c = gathered_none (λ a. not (has_area c.args.later.now a.0)) c.args.areas.now c.into_iter-number-iterator.result c.new-gone.result.items c.new-gone.ensures.items (c.into_iter-number-iterator.ensures.into_iter_gives ∙ c.range-number-items.ensures.pairs)
