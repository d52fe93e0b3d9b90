use Rattle.std.proofs.Common.{◌∙◌, sym, subst}
use Rattle.un_assoc.specs.Indexes.{AreContained}
use Rattle.un_assoc.proofs.Lists.{others}
use Rattle.un_assoc.proofs.Holding.{content_less, none_less}
use Rattle.un_assoc.proofs.containers.Containers.without.Goals as goal

pub returns : goal.returns
returns c = λ associations are rises there.
    content_less c.args.assoc.now associations rises there c.args.self.now.containers c.args.self.now.counts c.in_ok-containers.containers c.in_ok-counts.counts
    (sym c.is_containment.ensures ∙ c.if-not-is_containment.false) are c.len-len.ensures.ordered c.in_ok-containers.ensures c.in_ok-counts.ensures

pub returns-then-not-is_containment : goal.returns-then-not-is_containment
returns-then-not-is_containment c = λ associations are rises there.
    subst (λ s. AreContained s.containers s.counts (others c.args.assoc.now.id associations)) (sym c.in_ok-same.ensures)
    (none_less c.args.assoc.now associations rises there c.args.self.now.containers c.args.self.now.counts (sym c.is_containment.ensures ∙ c.if-not-is_containment.true) are)
