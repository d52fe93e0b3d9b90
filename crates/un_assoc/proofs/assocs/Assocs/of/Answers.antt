use Rattle.std.proofs.Common.{◌∙◌, ap}
use Rattle.un_defs.specs.Features.{associations_of}
use Rattle.un_assoc.specs.Links.{only_links}
use Rattle.un_assoc.proofs.Ending.{ends_of}
use Rattle.un_assoc.proofs.assocs.Assocs.of.Goals as goal

pub returns : goal.returns
returns c =
    c.in_ok-found.ensures ∙ ends_of c.self.inside.by_id c.self.inside.ends.pairs c.self.invariant.ends c.len-len.ensures.rising c.args.id
    ∙ ap (λ l. associations_of (only_links l) c.args.id) c.self.view_is
