use Rattle.std.proofs.Common.{◌∙◌, ap}
use Rattle.std.specs.Prelude.{slice_get}
use Rattle.un_defs.specs.Features.{associations_of}
use Rattle.un_assoc.specs.Links.{only_links}
use Rattle.un_assoc.proofs.Ending.{ends_of}
use Rattle.un_assoc.proofs.assocs.Assocs.first_of.Goals as goal

pub returns : goal.returns
returns c =
    c.first.ensures ∙ ap (λ l. slice_get l 0) (ends_of c.self.inside.by_id c.self.inside.ends.pairs c.self.invariant.ends c.len-len.ensures.rising c.args.id)
    ∙ ap (λ l. slice_get (associations_of (only_links l) c.args.id) 0) c.self.view_is
