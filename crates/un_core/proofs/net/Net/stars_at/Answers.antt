use denote.Param.Send.{sendable}
use Rattle.std.proofs.Common.{◌≡◌, ◌∙◌, IfOk, map, ap, subst}
use Rattle.std.proofs.Crossing.{crosses}
use Rattle.un_defs.specs.Star.{star}
use Rattle.un_facts.proofs.Crossing.{facts_sync}
use Rattle.un_facts.specs.Known.{Known, in_force}
use Rattle.un_core.specs.State.{State, fresh_star}
use Rattle.un_core.proofs.net.Net.stars_at.Goals as goal

pub stars-requires-sync-K : goal.stars-requires-sync-K
stars-requires-sync-K g c κs within = search (facts_sync, crosses, sendable) depth 60 fits 20000

pub returns : goal.returns
returns g c =
    subst (λ f. IfOk c.stars.result (λ built. built.items ≡ map f c.args.points.now))
    (ap (λ (K : Known). star (in_force K) K.features) c.live.ensures ∙ ap (λ (s : State). fresh_star s) c.self.view_is) c.stars.ensures
