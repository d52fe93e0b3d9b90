use Rattle.std.proofs.Common.{◌∙◌}
use Rattle.un_dirty.proofs.Gone.{found_gives}
use Rattle.un_dirty.proofs.dirty.has_area.Goals as goal

pub returns : goal.returns
returns c = c.is_some.ensures ∙ found_gives c.args.areas.now c.args.number c.get.result c.get.ensures
