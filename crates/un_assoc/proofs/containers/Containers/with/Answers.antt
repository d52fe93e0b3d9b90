use Rattle.std.proofs.Common.{◌∙◌, sym}
use Rattle.un_assoc.proofs.Holding.{content_more}
use Rattle.un_assoc.proofs.containers.Containers.with.Goals as goal

pub returns : goal.returns
returns c = λ associations are alone.
    let sort = sym c.is_containment.ensures ∙ c.if-not-is_containment.false in
    content_more c.args.assoc.now associations c.args.self.now.containers c.args.self.now.counts c.in_ok-containers.containers c.in_ok-counts.counts
    sort are (alone sort) c.in_ok-containers.ensures c.in_ok-counts.ensures
