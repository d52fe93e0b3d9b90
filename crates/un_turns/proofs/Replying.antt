-- The reply in a response is that of a step.
use Rattle.std.proofs.Common.{◌≡◌, ◌⊎◌, ℕ, max, List, sym, inl, inr, subst}
use Rattle.std.specs.Arc.{arc_value}
use Rattle.un_publish.specs.Models.{SessionModel}
use Rattle.un_publish.specs.declared.session.SessionFault.{SessionFault}
use Rattle.un_publish.specs.declared.session.SessionFault.TheVariants.{Denied as Refusing, Memory as NoMemory}
use Rattle.un_journal.specs.declared.receipt.Receipt.{Receipt}
use Rattle.un_desk.specs.Desks.{IsSubmitted}
use Rattle.un_desk.specs.declared.desk.ViewFault.{ViewFault}
use Rattle.un_desk.specs.declared.desk.ViewFault.TheVariants.{Ahead as BehindView, Denied as NotTaught, Memory as NoView}
use Rattle.un_turns.specs.declared.request.Request.{Request}
use Rattle.un_turns.specs.declared.request.Request.TheVariants.{Command}
use Rattle.un_turns.specs.declared.request.Response.{Response}
use Rattle.un_turns.specs.declared.request.Response.TheVariants.{Nothing, Answer, PastAnswer, BetweenAnswer, Reversed, Ahead, NotYet, Denied, Memory as NoRoom}
use Rattle.un_desk.specs.declared.past.PastFault.{PastFault}
use Rattle.un_desk.specs.declared.past.PastFault.TheVariants.{Ahead as PastAhead, Denied as PastDenied, Memory as PastMemory}
use Rattle.un_turns.specs.Turns.{Turn, Passed, Decided, Undecided, Unprepared, Answered, Unanswered, Recalled, Unread, Unrecalled, Compared, Reversed as Turned, UnreadSpan, Uncompared, end_of, later_of, IsTurn}
use Rattle.un_turns.specs.Served.{Answering, span_of, IsResponseOf, IsReplyOf, receipt_response, fault_response, view_response, past_response}
use Rattle.un_turns.specs.Truths.{ReplyLaw}

module _ {M C R K Q A : Type 0} (step : M → C → (M × (R × K)) ⊎ R) where
  -- it holds of an equal response
  at_equal : (q : Request C Q) (r r' : Response R A) → r ≡ r' → IsReplyOf step q r' → IsReplyOf step q r
  at_equal q r r' e h = subst (λ (z : Response R A). IsReplyOf step q z) (sym e) h

  fault_reply : (q : Request C Q) (r : Response R A) (f : SessionFault) → r ≡ fault_response f → IsReplyOf step q r
  fault_reply q r (Refusing d) e = at_equal q r (Denied d) e tt
  fault_reply q r NoMemory e = at_equal q r NoRoom e tt

  view_reply : (q : Request C Q) (r : Response R A) (f : ViewFault) → r ≡ view_response f → IsReplyOf step q r
  view_reply q r (BehindView a) e = at_equal q r (Ahead a) e tt
  view_reply q r (NotTaught d) e = at_equal q r (Denied d) e tt
  view_reply q r NoView e = at_equal q r NoRoom e tt

  past_reply : (q : Request C Q) (r : Response R A) (f : PastFault) → r ≡ past_response f → IsReplyOf step q r
  past_reply q r (PastAhead a) e = at_equal q r (NotYet a) e tt
  past_reply q r (PastDenied d) e = at_equal q r (Denied d) e tt
  past_reply q r PastMemory e = at_equal q r NoRoom e tt

module _ {M C R H K Q A : Type 0} (step : M → C → (M × (R × K)) ⊎ R) (opening : List M) (least : Q → ℕ) (answer : Answering M Q A) where
  decided_reply : (s t : SessionModel M C R H K) (q : Request C Q) (cmd : C) (r : Receipt M C R H K) → q ≡ Command cmd → IsSubmitted step opening s t cmd r → IsReplyOf {A = A} step q (receipt_response r)
  decided_reply s t q cmd r e h =
      elim h.receipt.decided as (λ _. IsReplyOf {A = A} step q (receipt_response r)) [
        | inl d ↦ rw d.0 (cmd, h.before.state, h.after.state, d.1.mark, e, d.1.steps)
        | inr d ↦ rw d.0 (cmd, h.before.state, e, d.1.steps)
      ]

  turn_reply : (s t : SessionModel M C R H K) (q : Request C Q) (u : Turn M C R H K Q) (r : Response R A) → IsTurn step opening least s u t → IsResponseOf answer q u r → IsReplyOf step q r
  turn_reply s t q Passed r h (inl e) = at_equal step q r Nothing e.1 e.0
  turn_reply s t q Passed r h (inr e) = at_equal step q r NoRoom e tt
  turn_reply s t q (Decided cmd d) r h e = at_equal step q r (receipt_response d) e.1 (decided_reply s t q cmd d e.0 h)
  turn_reply s t q (Undecided cmd f) r h e = fault_reply step q r f e.1
  turn_reply s t q (Unprepared cmd f) r h e = fault_reply step q r f e.1
  turn_reply s t q (Answered query v) r h e = at_equal step q r (Answer v.version (answer.at (arc_value v.state) query)) e.1 tt
  turn_reply s t q (Unanswered query f) r h e = view_reply step q r f e.1
  turn_reply s t q (Recalled query at v w) r h e = at_equal step q r (PastAnswer (max v.version at) (answer.at (arc_value w.state) query)) e.1 tt
  turn_reply s t q (Unread query at f) r h e = view_reply step q r f e.1
  turn_reply s t q (Unrecalled query at f) r h e = past_reply step q r f e.1
  turn_reply s t q (Compared query since upto v old new) r h e =
      at_equal step q r (BetweenAnswer (later_of upto v.version) (answer.between (span_of since upto v.version) (arc_value old.state) (arc_value new.state) query)) e.1 tt
  turn_reply s t q (Turned query since upto v old) r h e = at_equal step q r (Reversed v.version since (end_of upto v.version)) e.1 tt
  turn_reply s t q (UnreadSpan query since upto f) r h e = view_reply step q r f e.1
  turn_reply s t q (Uncompared query since upto at f) r h e = past_reply step q r f e.1

  pub replies_are_steps : ReplyLaw H step opening least answer
  replies_are_steps s t request response h = turn_reply s t request h.turn response h.is h.responds
