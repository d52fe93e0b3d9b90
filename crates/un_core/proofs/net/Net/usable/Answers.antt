use Rattle.std.proofs.Common.{sym, ap, ◌∙◌, subst}
use Rattle.std.specs.List.{list_any}
use Rattle.std.specs.Option.{IfSome}
use Rattle.un_geom.specs.Places.{covers}
use Rattle.un_machine.specs.Logs.{Since}
use Rattle.un_core.specs.Commands.{step}
use Rattle.un_core.specs.Preparing.{IsPreparedAt}
use Rattle.un_core.proofs.MarksOf.{any_flat}
use Rattle.un_core.proofs.StillFresh.{found_fresh}
use Rattle.un_core.proofs.net.Net.usable.Goals as goal

pub returns : goal.returns
returns c = λ p missed.
    let since = c.args.since.now in
    let s = c.args.self.now in
    let given = subst (λ o. IfSome o (λ h. Since step IsPreparedAt h.now since s)) c.in-Some.is c.requires in
    let rects = c.deref.ensures.value ∙ c.in_ok-rects.ensures in
    found_fresh c.in-Some.prepared.now since s p given
    (sym (any_flat p since) ∙ ap (list_any (λ r. covers r p)) (sym rects) ∙ c.in_ok-of.ensures p missed)
