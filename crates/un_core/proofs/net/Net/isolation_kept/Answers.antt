use Rattle.std.proofs.Common.{List, inr, sym, ap, subst}
use Rattle.std.proofs.lemmas.Result.{IfOk-weaker}
use Rattle.un_defs.specs.declared.port.Node.{Node}
use Rattle.un_defs.specs.declared.walk.Mode.{Mode}
use Rattle.un_defs.specs.declared.walk.Mode.TheVariants.{Any}
use Rattle.un_defs.specs.Ground.{Ground}
use Rattle.un_defs.specs.Reach.{IsReach, leads}
use Rattle.un_index.specs.Kept.{stars_of}
use Rattle.un_walk.specs.Ticks.{IsLookedUpOnce}
use Rattle.un_trace.specs.TraceReply.{mode_of}
use Rattle.un_isolate.specs.Answer.{IsAnswer, IsFitOnCleanGround}
use Rattle.un_core.specs.State.{kept_ground}
use Rattle.un_core.specs.Answers.{kept_survey, reached_from}
use Rattle.un_core.proofs.Asked.{kept_points, isolation_kept as isolation_answer}
use Rattle.un_core.proofs.Grounds.{reached_reaches}
use Rattle.un_core.proofs.Isolating.{is_fit}
use Rattle.un_core.proofs.net.Net.isolation_kept.Goals as goal

pub isolate-requires : goal.isolate-requires
isolate-requires g c =
    let s = c.args.self.now in
    let ask = c.args.ask.now in
    let is = c.version-version.ensures.state in
    record {
      kind = c.requires.kind;
      fit = subst (λ (G : Ground). IsFitOnCleanGround G ask)
          (λ i. record { stars = stars_of (sym c.kept_ground-kept.ensures.stars i); areas = sym c.kept_ground-kept.ensures.areas i })
          (λ reached reach clean. is_fit s is ask c.requires.kind c.requires.starts c.requires.clear reached reach clean);
    }

pub returns-clause-reply : goal.returns-clause-reply
returns-clause-reply g c =
    let s = c.args.self.now in
    let ask = c.args.ask.now in
    IfOk-weaker c.isolate.result _ _
    (λ reply is. isolation_answer s ask reply c.requires.kind.kind
    (subst (λ (G : Ground). IsAnswer G ask reply)
    (λ i. record { stars = stars_of (c.kept_ground-kept.ensures.stars i); areas = c.kept_ground-kept.ensures.areas i }) is))
    c.isolate.ensures.answer

pub returns-clause-ticks : goal.returns-clause-ticks
returns-clause-ticks g c =
    let s = c.args.self.now in
    let ask = c.args.ask.now in
    let nodes : List Node = reached_from (kept_survey s) ask in
    let reach : IsReach (leads (kept_ground s) ask.barriers Any) ask.starts nodes =
    subst (λ (m : Mode). IsReach (leads (kept_ground s) ask.barriers m) ask.starts nodes) (ap mode_of c.requires.kind.kind)
    (reached_reaches (kept_survey s) (kept_points s.kept) ask.barriers (mode_of ask.kind) ask.starts) in
    c.isolate.ensures.ticks nodes
    (subst (λ (G : Ground). IsReach (leads G ask.barriers Any) ask.starts nodes)
    (λ i. record { stars = stars_of (sym c.kept_ground-kept.ensures.stars i); areas = sym c.kept_ground-kept.ensures.areas i }) reach)
    (subst (λ (G : Ground). IsLookedUpOnce G ask.barriers)
    (λ i. record { stars = stars_of (sym c.kept_ground-kept.ensures.stars i); areas = sym c.kept_ground-kept.ensures.areas i })
    (inr (λ n t _ stands path. c.version-version.ensures.state.paths n t stands path)))
