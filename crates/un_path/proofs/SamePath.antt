-- Two grounds give one reply where the reached nodes have the same entries in both.
use Rattle.std.proofs.Common.{◌≡◌, List, Option, Some, None, refl, sym, ap, ◌∙◌}
use Rattle.un_defs.specs.declared.port.Node.{Node}
use Rattle.un_defs.specs.declared.walk.Mode.TheVariants.{Any}
use Rattle.un_defs.specs.declared.walk.Dirt.{Dirt}
use Rattle.un_defs.specs.Ground.{Ground, entry}
use Rattle.un_defs.specs.Reach.{leads, dirt}
use Rattle.un_defs.proofs.Members.{contains_from_among}
use Rattle.un_defs.proofs.Rising.{Among}
use Rattle.un_ask.specs.declared.reply.Reply.TheVariants.{Check}
use Rattle.un_path.specs.Answer.{path_of, path_given_dirt, path_reply, check_given_dirt, check_reply}
use Rattle.un_path.specs.Costs.{step_cost}
use Rattle.un_path.specs.Laws.{SamePathLaw, SameCheckLaw}
use Rattle.un_path.proofs.SameSteps.{same_leads, same_cost, same_found, same_verdict}

same_dirt : (G H : Ground) (nodes : List Node) → G.areas ≡ H.areas → dirt G nodes ≡ dirt H nodes
same_dirt G H nodes areas = λ i. dirt (record { stars = G.stars; areas = areas i }) nodes

pub same_path : SamePathLaw
same_path G H ask reached areas reach entries = go (dirt G reached) refl
  where
    over : dirt G reached ≡ dirt H reached
    over = same_dirt G H reached areas

    go : (o : Option Dirt) → dirt G reached ≡ o → path_reply G ask reached ≡ path_reply H ask reached
    go (Some d) e = ap (λ o. path_given_dirt o G ask reached) e ∙ sym (ap (λ o. path_given_dirt o H ask reached) (sym over ∙ e))
    go None e =
        let same : (n : Node) → Among reached n → entry G n ≡ entry H n = λ n h. entries e n (contains_from_among reached n h) in
        ap (λ o. path_given_dirt o G ask reached) e
        ∙ ap path_of
        (same_found (leads G ask.barriers Any) (leads H ask.barriers Any) (step_cost G ask.barriers ask.weight) (step_cost H ask.barriers ask.weight) reached (same_leads G H areas ask.barriers reached same)
        (same_cost G H areas ask.barriers reached same ask.weight) ask.from reach ask.to ask.certificate)
        ∙ sym (ap (λ o. path_given_dirt o H ask reached) (sym over ∙ e))

pub same_check : SameCheckLaw
same_check G H ask reached areas reach entries = go (dirt G reached) refl
  where
    over : dirt G reached ≡ dirt H reached
    over = same_dirt G H reached areas

    go : (o : Option Dirt) → dirt G reached ≡ o → check_reply G ask reached ≡ check_reply H ask reached
    go (Some d) e = ap (λ o. check_given_dirt o G ask reached) e ∙ sym (ap (λ o. check_given_dirt o H ask reached) (sym over ∙ e))
    go None e =
        let same : (n : Node) → Among reached n → entry G n ≡ entry H n = λ n h. entries e n (contains_from_among reached n h) in
        ap (λ o. check_given_dirt o G ask reached) e
        ∙ ap (λ valid. Check valid 0)
        (same_verdict (leads G ask.barriers Any) (leads H ask.barriers Any) (step_cost G ask.barriers ask.weight) (step_cost H ask.barriers ask.weight) reached (same_leads G H areas ask.barriers reached same)
        (same_cost G H areas ask.barriers reached same ask.weight) ask reach)
        ∙ sym (ap (λ o. check_given_dirt o H ask reached) (sym over ∙ e))
