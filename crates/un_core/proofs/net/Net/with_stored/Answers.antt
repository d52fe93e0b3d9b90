use Rattle.std.proofs.Common.{sym, subst}
use Rattle.un_core.specs.Cover.{IsState}
use Rattle.un_core.specs.Held.{held}
use Rattle.un_core.proofs.CoverKept.{stored_state}
use Rattle.un_core.proofs.net.Net.with_stored.Goals as goal

pub invariant_of-result : goal.invariant_of-result
invariant_of-result c =
    let n = c.self.inside in
    subst IsState (λ i. held (sym c.in_ok-facts.ensures i) (sym c.in_ok-kept.ensures i) (sym c.in_ok-dirty.ensures i) c.args.stored c.args.version n.ids)
    (stored_state (held n.facts n.kept n.dirty n.stored n.version n.ids) c.args.stored c.args.version c.self.invariant c.len-len.ensures.ordered)
