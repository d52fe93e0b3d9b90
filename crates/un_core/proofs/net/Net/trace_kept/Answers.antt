use Rattle.std.proofs.Common.{inr, sym, subst}
use Rattle.std.proofs.lemmas.Result.{IfOk-weaker}
use Rattle.un_defs.specs.Ground.{Ground}
use Rattle.un_defs.specs.Reach.{IsReach, leads}
use Rattle.un_index.specs.Kept.{stars_of}
use Rattle.un_walk.specs.Ticks.{IsLookedUpOnce}
use Rattle.un_trace.specs.TraceReply.{IsAnswer, mode_of}
use Rattle.un_core.specs.Answers.{kept_survey, reached_from}
use Rattle.un_core.proofs.Asked.{answer_kept, kept_points}
use Rattle.un_core.proofs.Taken.{no_loops, no_isolation}
use Rattle.un_core.proofs.Grounds.{reached_reaches}
use Rattle.un_core.proofs.net.Net.trace_kept.Goals as goal

pub returns-clause-reply : goal.returns-clause-reply
returns-clause-reply g c =
    let s = c.args.self.now in
    let ask = c.args.ask.now in
    IfOk-weaker c.trace.result _ _
    (λ reply is. answer_kept s ask reply (no_loops ask.kind ask.barriers.tier c.requires.kind) (no_isolation ask.kind ask.barriers.tier c.requires.kind)
    (subst (λ (G : Ground). IsAnswer G ask reply)
    (λ i. record { stars = stars_of (c.kept_ground-kept.ensures.stars i); areas = c.kept_ground-kept.ensures.areas i }) is))
    c.trace.ensures.answer

pub returns-clause-ticks : goal.returns-clause-ticks
returns-clause-ticks g c =
    let s = c.args.self.now in
    let ask = c.args.ask.now in
    c.trace.ensures.ticks (reached_from (kept_survey s) ask)
    (subst (λ (G : Ground). IsReach (leads G ask.barriers (mode_of ask.kind)) ask.starts (reached_from (kept_survey s) ask))
    (λ i. record { stars = stars_of (sym c.kept_ground-kept.ensures.stars i); areas = sym c.kept_ground-kept.ensures.areas i })
    (reached_reaches (kept_survey s) (kept_points s.kept) ask.barriers (mode_of ask.kind) ask.starts))
    (subst (λ (G : Ground). IsLookedUpOnce G ask.barriers)
    (λ i. record { stars = stars_of (sym c.kept_ground-kept.ensures.stars i); areas = sym c.kept_ground-kept.ensures.areas i })
    (inr (λ n t _ stands path. c.version-version.ensures.state.paths n t stands path)))
