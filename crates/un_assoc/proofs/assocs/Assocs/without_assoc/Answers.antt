use Rattle.std.proofs.Common.{◌≡◌, ◌==◌, Some, find, sym, subst}
use Rattle.un_assoc.specs.Indexes.{AreEnds, AreContained}
use Rattle.un_assoc.proofs.assocs.Assocs.without_assoc.Goals as goal

pub invariant_of-result : goal.invariant_of-result
invariant_of-result c =
    let there = subst (λ l. find (λ a. a.id == c.args.gone.id) l.associations ≡ Some c.args.gone) (sym c.self.view_is) c.requires in
    record {
      ends = subst (AreEnds c.in_ok-without-2.field-0.pairs) (sym c.in_ok-without.ensures) (c.in_ok-without-2.ensures c.self.inside.by_id c.self.invariant.ends c.len-len.ensures.rising there);
      contained = subst (AreContained c.in_ok-without-3.field-0.containers c.in_ok-without-3.field-0.counts) (sym c.in_ok-without.ensures)
          (c.in_ok-without-3.ensures c.self.inside.by_id c.self.invariant.contained c.len-len.ensures.rising there);
    }
