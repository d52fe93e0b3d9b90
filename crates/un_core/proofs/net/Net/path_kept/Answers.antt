use Rattle.std.proofs.Common.{◌∷◌, [], sym, subst}
use Rattle.std.proofs.lemmas.Result.{IfOk-weaker}
use Rattle.un_defs.specs.Ground.{Ground}
use Rattle.un_index.specs.Kept.{stars_of}
use Rattle.un_path.specs.Answer.{IsReachFrom, HaveOwnPortsOnCleanGround, IsPathAnswer}
use Rattle.un_core.specs.Answers.{kept_survey, reached_any}
use Rattle.un_core.proofs.WalkAnswers.{kept_any, kept_own_ports, path_kept as kept_answer}
use Rattle.un_core.proofs.net.Net.path_kept.Goals as goal

pub path-requires-clause-own_ports : goal.path-requires-clause-own_ports
path-requires-clause-own_ports g c =
    let s = c.args.self.now in
    let ask = c.args.ask.now in
    subst (λ (G : Ground). HaveOwnPortsOnCleanGround G ask.barriers ask.from)
    (λ i. record { stars = stars_of (sym c.kept_ground-kept.ensures.stars i); areas = sym c.kept_ground-kept.ensures.areas i })
    (kept_own_ports s c.version-version.ensures.state ask.barriers c.requires.consistent ask.from c.requires.from)

pub returns-clause-reply : goal.returns-clause-reply
returns-clause-reply g c =
    let s = c.args.self.now in
    let ask = c.args.ask.now in
    IfOk-weaker c.path.result _ _
    (λ reply is. kept_answer s ask reply
    (subst (λ (G : Ground). IsPathAnswer G ask reply)
    (λ i. record { stars = stars_of (c.kept_ground-kept.ensures.stars i); areas = c.kept_ground-kept.ensures.areas i }) is))
    c.path.ensures.answer

pub returns-clause-ticks : goal.returns-clause-ticks
returns-clause-ticks g c =
    let s = c.args.self.now in
    let ask = c.args.ask.now in
    c.path.ensures.ticks (reached_any (kept_survey s) ask.barriers (ask.from ∷ []))
    (subst (λ (G : Ground). IsReachFrom G ask.barriers ask.from (reached_any (kept_survey s) ask.barriers (ask.from ∷ [])))
    (λ i. record { stars = stars_of (sym c.kept_ground-kept.ensures.stars i); areas = sym c.kept_ground-kept.ensures.areas i })
    (kept_any s ask.barriers (ask.from ∷ [])))
