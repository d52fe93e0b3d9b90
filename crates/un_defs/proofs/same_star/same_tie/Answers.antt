use Rattle.std.proofs.Common.{◌∙◌}
use Rattle.un_defs.proofs.TiesAlike.{ties_alike}
use Rattle.un_defs.proofs.same_star.same_tie.Goals as goal

pub returns : goal.returns
returns c = c.eq.ensures ∙ (λ i. ties_alike i (c.tie.ensures i) (c.tie-2.ensures i))
