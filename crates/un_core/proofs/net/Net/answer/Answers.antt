use Rattle.std.proofs.Common.{◌≡◌, None, sym, ap, ◌∙◌}
use Rattle.std.specs.Option.{option_map_or}
use Rattle.std.proofs.lemmas.Result.{IfOk-weaker}
use Rattle.un_core.specs.Answers.{refused, query_refusal, asked_on, kept_basis}
use Rattle.un_core.proofs.HistoryAnswers.{two_grounds}
use Rattle.un_core.proofs.net.Net.answer.Goals as goal

pub returns-in-None-clause-fresh : goal.returns-in-None-clause-fresh
returns-in-None-clause-fresh g c =
    let s = c.args.self.now in
    let q = c.args.query.now in
    let cause : query_refusal s q ≡ None = sym c.query_refusal.ensures.cause ∙ c.in-None.is in
    IfOk-weaker c.accepted_reply.result _ _
    (λ reply is. is ∙ ap (λ o. option_map_or (refused s) o (asked_on s (kept_basis s) q.what)) (sym cause) ∙ two_grounds s q c.query_refusal.ensures.state)
    c.accepted_reply.ensures.reply
