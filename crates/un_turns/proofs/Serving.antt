-- One more request that was handled.
use Rattle.std.proofs.Common.{◌⊎◌, ℕ, List, [], ◌∷◌, ◌++◌, ap, sym, ◌∙◌, subst}
use Rattle.std.proofs.lemmas.List.{map-append}
use Rattle.un_turns.specs.declared.request.Request.{Request}
use Rattle.un_turns.specs.declared.request.Response.{Response}
use Rattle.un_turns.specs.Turns.{Turn}
use Rattle.un_turns.specs.Conversations.{Conversed}
use Rattle.un_turns.specs.Truths.{MoreLaw}
use Rattle.un_turns.specs.Served.{Answering, Exchange, turns_of, IsResponseOf, AreResponses}
use Rattle.un_turns.proofs.Turning.{conversed_more}

module _ {M C R H K Q A : Type 0} where
  true_more : (answer : Answering M Q A) (xs : List (Exchange M C R H K Q A)) (x : Exchange M C R H K Q A) → AreResponses answer xs → IsResponseOf answer x.request x.turn x.response → AreResponses answer (xs ++ x ∷ [])
  true_more answer [] x h e = (e, tt)
  true_more answer (y ∷ ys) x h e = (h.0, true_more answer ys x h.1 e)

module _ {M C R H K Q A : Type 0} (step : M → C → (M × (R × K)) ⊎ R) (opening : List M) (least : Q → ℕ) (answer : Answering M Q A) where
  pub served_more : MoreLaw H step opening least answer
  served_more s m t requests responses request response a b =
      let x : Exchange M C R H K Q A = record { request = request; turn = b.turn; response = response } in
      let more = conversed_more step opening least s m t (turns_of a.exchanges) b.turn a.conversed b.is in
      record {
        exchanges = a.exchanges ++ x ∷ [];
        asked = map-append (λ (y : Exchange M C R H K Q A). y.request) a.exchanges (x ∷ []) ∙ ap (λ (l : List (Request C Q)). l ++ request ∷ []) a.asked;
        answered = map-append (λ (y : Exchange M C R H K Q A). y.response) a.exchanges (x ∷ []) ∙ ap (λ (l : List (Response R A)). l ++ response ∷ []) a.answered;
        conversed = subst (λ (l : List (Turn M C R H K Q)). Conversed step opening least s l t) (sym (map-append (λ (y : Exchange M C R H K Q A). y.turn) a.exchanges (x ∷ []))) more;
        responds = true_more answer a.exchanges x a.responds b.responds;
      }
