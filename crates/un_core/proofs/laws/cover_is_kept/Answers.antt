use Rattle.un_core.proofs.CoverKept.{cover_is_kept}
use Rattle.un_core.proofs.laws.cover_is_kept.Goals as goal

pub returns : goal.returns
returns c = cover_is_kept
