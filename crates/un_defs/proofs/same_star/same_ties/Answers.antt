use Rattle.std.proofs.Common.{◌∙◌, sym}
use Rattle.un_defs.specs.SameStar.{same_tie}
use Rattle.un_defs.proofs.Pairwise.{pairs}
use Rattle.un_defs.proofs.same_star.same_ties.Goals as goal

pub returns-then-one-other : goal.returns-then-one-other
returns-then-one-other c = c.same_tie_pairs.ensures ∙ sym (pairs same_tie c.args.one.now c.args.other.now c.if-one-other.true)
