use Rattle.std.proofs.Common.{◌∙◌, ap}
use Rattle.un_assoc.specs.Indexes.{count_in}
use Rattle.un_assoc.proofs.Holding.{counted_more}
use Rattle.un_assoc.proofs.containers.counts_with.Goals as goal

pub returns : goal.returns
returns c = λ id. ap (λ l. count_in l id) c.in_ok-new.ensures ∙ counted_more c.args.container c.args.counts.now c.in_ok-more.more c.in_ok-more.ensures id
