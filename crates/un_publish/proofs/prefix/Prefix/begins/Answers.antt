use Rattle.std.proofs.Common.{ap, subst}
use mathlib.Core.List.{IsPrefix}
use Rattle.un_publish.proofs.Prefixes.{begins_which}
use Rattle.un_publish.proofs.prefix.Prefix.begins.Goals as goal

pub returns : goal.returns
returns g c =
    let both = c.learn.new.self.log in
    let this = subst (λ l. IsPrefix l both) (ap (λ s. s.log) c.again-both.ensures) c.learn.ensures.2 in
    rw (← c.self.view_is, ← c.other.view_is) (begins_which c.self.inside.count c.other.inside.count c.self.inside.seen.log c.other.inside.seen.log both c.self.invariant.0 c.other.invariant.0 this c.learn.ensures.3)
