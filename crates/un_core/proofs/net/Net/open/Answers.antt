use Rattle.std.proofs.Common.{sym, subst}
use Rattle.un_core.specs.Held.{held}
use Rattle.un_core.specs.Cover.{IsState}
use Rattle.un_core.proofs.Opening.{opening_state}
use Rattle.un_core.proofs.net.Net.open.Goals as goal

pub invariant_of-result : goal.invariant_of-result
invariant_of-result c =
    subst IsState (λ i. held (sym c.in_ok-open.ensures i) (sym c.new.ensures i) (sym c.new-2.ensures i) (sym c.in_ok-new.ensures i) 0 (record { feature = 1; association = 1 }))
    (opening_state (record { schema = c.args.schema; tiers = c.args.tiers }))
