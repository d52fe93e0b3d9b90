use Rattle.std.proofs.Common.{sym, subst}
use Rattle.std.proofs.lemmas.Result.{IfOk-weaker}
use Rattle.un_defs.specs.Ground.{Ground}
use Rattle.un_index.specs.Kept.{stars_of}
use Rattle.un_diagram.specs.Answer.{IsReachOf, AreLinkedOnCleanGround, IsAnswer}
use Rattle.un_core.specs.Answers.{kept_survey, reached_any}
use Rattle.un_core.proofs.WalkAnswers.{kept_any, kept_are_linked, diagram_kept as kept_answer}
use Rattle.un_core.proofs.net.Net.diagram_kept.Goals as goal

pub diagram-requires-clause-linked : goal.diagram-requires-clause-linked
diagram-requires-clause-linked g c =
    let s = c.args.self.now in
    let ask = c.args.ask.now in
    subst (λ (G : Ground). AreLinkedOnCleanGround G ask)
    (λ i. record { stars = stars_of (sym c.kept_ground-kept.ensures.stars i); areas = sym c.kept_ground-kept.ensures.areas i })
    (kept_are_linked s c.version-version.ensures.state ask.barriers c.requires.consistent ask.starts c.requires.starts)

pub returns-clause-reply : goal.returns-clause-reply
returns-clause-reply g c =
    let s = c.args.self.now in
    let ask = c.args.ask.now in
    IfOk-weaker c.diagram.result _ _
    (λ reply is. kept_answer s ask reply
    (subst (λ (G : Ground). IsAnswer G ask reply)
    (λ i. record { stars = stars_of (c.kept_ground-kept.ensures.stars i); areas = c.kept_ground-kept.ensures.areas i }) is))
    c.diagram.ensures.answer

pub returns-clause-ticks : goal.returns-clause-ticks
returns-clause-ticks g c =
    let s = c.args.self.now in
    let ask = c.args.ask.now in
    c.diagram.ensures.ticks (reached_any (kept_survey s) ask.barriers ask.starts)
    (subst (λ (G : Ground). IsReachOf G ask (reached_any (kept_survey s) ask.barriers ask.starts))
    (λ i. record { stars = stars_of (sym c.kept_ground-kept.ensures.stars i); areas = sym c.kept_ground-kept.ensures.areas i })
    (kept_any s ask.barriers ask.starts))
