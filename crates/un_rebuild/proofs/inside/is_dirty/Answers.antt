use Rattle.std.proofs.Common.{◌∙◌, ap, is_some}
use Rattle.un_rebuild.proofs.Within.{found_under}
use Rattle.un_rebuild.proofs.inside.is_dirty.Goals as goal

pub returns : goal.returns
returns c = c.is_some.ensures ∙ ap is_some c.least_at.ensures.first ∙ found_under c.args.dirty.now.areas c.args.p
