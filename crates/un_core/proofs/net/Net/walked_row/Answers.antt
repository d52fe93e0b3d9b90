use Rattle.std.proofs.Common.{◌≡◌, sym, subst, ◌∙◌, ap, IfOk, OnOk, None}
use Rattle.un_defs.specs.Ground.{Ground}
use Rattle.un_defs.specs.declared.walk.Mode.TheVariants.{Any}
use Rattle.un_index.specs.Kept.{stars_of}
use Rattle.un_subnet.specs.Answer.{IsAnswer, walk_refusal, row_of}
use Rattle.un_core.specs.State.{kept_ground}
use Rattle.un_core.specs.Walked.{kept_survey, reached}
use Rattle.un_core.specs.Updating.{IsOfWalk, row_in_reply}
use Rattle.un_defs.specs.Refusing.{Refuses}
use Rattle.un_core.proofs.Updated.{walk_kept, of_walk, row_where, none_where, refused_where}
use Rattle.un_core.proofs.net.Net.walked_row.Goals as goal

pub row_in_reply-requires : goal.row_in_reply-requires
row_in_reply-requires c =
    let s = c.args.self.now in
    let ask = c.args.ask.now in
    let nodes = reached (kept_survey s) ask.barriers Any ask.starts in
    let of_kept = walk_kept s ask c.in_ok-reply.reply (subst (λ (G : Ground). IsAnswer G ask c.in_ok-reply.reply)
    (λ i. record { stars = stars_of (c.kept_ground-kept.ensures.stars i); areas = c.kept_ground-kept.ensures.areas i }) c.in_ok-reply.ensures.answer) in
    subst IsOfWalk (sym of_kept) (of_walk (kept_ground s) ask nodes)

pub returns-clause-row : goal.returns-clause-row
returns-clause-row c =
    let s = c.args.self.now in
    let ask = c.args.ask.now in
    let nodes = reached (kept_survey s) ask.barriers Any ask.starts in
    let of_kept = walk_kept s ask c.in_ok-reply.reply (subst (λ (G : Ground). IsAnswer G ask c.in_ok-reply.reply)
    (λ i. record { stars = stars_of (c.kept_ground-kept.ensures.stars i); areas = c.kept_ground-kept.ensures.areas i }) c.in_ok-reply.ensures.answer) in
    subst (λ r. IfOk r (λ row. row ≡ row_of ask nodes)) (sym (c.row_in_reply.ensures ∙ ap row_in_reply of_kept)) (row_where (kept_ground s) ask nodes)

pub returns-clause-good : goal.returns-clause-good
returns-clause-good c =
    let s = c.args.self.now in
    let ask = c.args.ask.now in
    let nodes = reached (kept_survey s) ask.barriers Any ask.starts in
    let of_kept = walk_kept s ask c.in_ok-reply.reply (subst (λ (G : Ground). IsAnswer G ask c.in_ok-reply.reply)
    (λ i. record { stars = stars_of (c.kept_ground-kept.ensures.stars i); areas = c.kept_ground-kept.ensures.areas i }) c.in_ok-reply.ensures.answer) in
    subst (λ r. OnOk r (walk_refusal (kept_ground s) ask nodes ≡ None)) (sym (c.row_in_reply.ensures ∙ ap row_in_reply of_kept)) (none_where (kept_ground s) ask nodes)

pub returns-clause-bad : goal.returns-clause-bad
returns-clause-bad c =
    let s = c.args.self.now in
    let ask = c.args.ask.now in
    let nodes = reached (kept_survey s) ask.barriers Any ask.starts in
    let of_kept = walk_kept s ask c.in_ok-reply.reply (subst (λ (G : Ground). IsAnswer G ask c.in_ok-reply.reply)
    (λ i. record { stars = stars_of (c.kept_ground-kept.ensures.stars i); areas = c.kept_ground-kept.ensures.areas i }) c.in_ok-reply.ensures.answer) in
    subst (λ r. Refuses r (walk_refusal (kept_ground s) ask nodes)) (sym (c.row_in_reply.ensures ∙ ap row_in_reply of_kept)) (refused_where (kept_ground s) ask nodes)
