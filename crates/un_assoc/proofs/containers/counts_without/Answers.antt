use Rattle.std.proofs.Common.{◌≡◌, ◌-◌, ◌∙◌, ap, arith}
use Rattle.un_assoc.specs.Indexes.{count_in}
use Rattle.un_assoc.proofs.Holding.{counted_less, counted_none}
use Rattle.un_assoc.proofs.containers.counts_without.Goals as goal
use Rattle.un_assoc.proofs.containers.counts_without.Goals.{then-count-le1+in_ok-new, else-count-le1+in_ok-new-2}

pub returns : goal.returns
returns c = λ id. elim c.if-count-le1.branch [
  | then-count-le1+in_ok-new w ↦
      let last : count_in c.args.counts.now c.args.container - 1 ≡ 0 = omega (arith, c.count_of-count.ensures, w.if-count-le1.true) in
      ap (λ l. count_in l id) (w.new-is ∙ w.in_ok-new.ensures) ∙ counted_none c.args.container c.args.counts.now c.len-len.ensures.ordered last id
  | else-count-le1+in_ok-new-2 w ↦
      ap (λ l. count_in l id) (w.new-is ∙ w.in_ok-new-2.ensures) ∙ counted_less c.args.container c.args.counts.now (c.count_of-count.result - 1) (ap (λ n. n - 1) c.count_of-count.ensures) id
]
