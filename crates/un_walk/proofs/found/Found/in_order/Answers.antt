use Rattle.std.proofs.Common.{IsPermutation, subst}
use Rattle.std.proofs.lemmas.List.Sorted.{IsPermutation-trans}
use Rattle.un_walk.specs.Found.{seens, seens_of}
use Rattle.un_walk.proofs.found.Found.in_order.Goals as goal

pub returns-clause-permutation : goal.returns-clause-permutation
returns-clause-permutation c =
    IsPermutation-trans (seens c.args.self.now) c.in_ok-seen.seen.items c.sort_by_node.new.seen.items
    (subst (λ items. IsPermutation (seens_of items) c.in_ok-seen.seen.items) c.as_slice.ensures.value c.in_ok-seen.ensures)
    c.sort_by_node.ensures.permutation
