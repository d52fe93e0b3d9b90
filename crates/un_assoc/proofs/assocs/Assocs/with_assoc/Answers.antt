use Rattle.std.proofs.Common.{◌≡◌, ◌<◌, None, All, IsTrue, sym, subst}
use Rattle.un_defs.specs.Star.{is_containment}
use Rattle.un_assoc.specs.Containing.{container_of}
use Rattle.un_assoc.specs.Indexes.{AreEnds, AreContained}
use Rattle.un_assoc.proofs.assocs.Assocs.with_assoc.Goals as goal

pub invariant_of-result : goal.invariant_of-result
invariant_of-result c =
    let over = subst (λ l. All (λ a. a.id < c.args.assoc.id) l.associations) (sym c.self.view_is) c.requires.next in
    let alone = subst (λ l. IsTrue (is_containment c.args.assoc.sort) → container_of l.associations c.args.assoc.to.feature ≡ None) (sym c.self.view_is) c.requires.alone in
    record {
      ends = subst (AreEnds c.in_ok-with-2.field-0.pairs) (sym c.in_ok-with.ensures) (c.in_ok-with-2.ensures c.self.inside.by_id c.self.invariant.ends over);
      contained = subst (AreContained c.in_ok-with-3.field-0.containers c.in_ok-with-3.field-0.counts) (sym c.in_ok-with.ensures)
          (c.in_ok-with-3.ensures c.self.inside.by_id c.self.invariant.contained alone);
    }
