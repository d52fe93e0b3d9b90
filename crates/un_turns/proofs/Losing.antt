-- An answer at a past version that is lost before it is told.
use Rattle.std.proofs.Common.{◌≡◌, ◌⊎◌, ℕ, Bool, true, false, List, refl, inl, inr}
use Rattle.un_publish.specs.Models.{SessionModel}
use Rattle.un_publish.specs.declared.session.SessionFault.TheVariants.{Denied as Refusing, Memory as NoMemory}
use Rattle.un_journal.specs.declared.receipt.Receipt.{Receipt}
use Rattle.un_desk.specs.declared.desk.ViewFault.TheVariants.{Ahead as BehindView, Denied as NotTaught, Memory as NoView}
use Rattle.un_desk.specs.declared.past.PastFault.TheVariants.{Ahead as BehindPast, Denied as PastNotTaught, Memory as NoPast}
use Rattle.un_turns.specs.declared.request.Request.{Request}
use Rattle.un_turns.specs.declared.request.Response.{Response}
use Rattle.un_turns.specs.declared.request.Response.TheVariants.{PastAnswer, Memory}
use Rattle.un_turns.specs.Turns.{Turn, Passed, Decided, Undecided, Unprepared, Answered, Unanswered, Recalled, Unread, Unrecalled, Compared, Reversed, UnreadSpan, Uncompared, IsTurn}
use Rattle.un_turns.specs.Served.{Answering, IsServed, IsResponseOf, receipt_response}
use Rattle.un_turns.specs.Truths.{LostLaw}

module _ {M C R H K A : Type 0} where
  not_receipt : (x : Response R A) (r : Receipt M C R H K) (v : ℕ) (text : A) (b : Bool) → r.accepted ≡ b → x ≡ PastAnswer v text → x ≡ receipt_response r → ⊥
  not_receipt x r v text true a p e = absurd (cc (p, rw a at e))
  not_receipt x r v text false a p e = absurd (cc (p, rw a at e))

module _ {M C R H K Q A : Type 0} (step : M → C → (M × (R × K)) ⊎ R) (opening : List M) (least : Q → ℕ) (answer : Answering M Q A) where
  lost_turn : (s t : SessionModel M C R H K) (q : Request C Q) (u : Turn M C R H K Q) (v : ℕ) (text : A) → IsTurn step opening least s u t → IsResponseOf answer q u (PastAnswer v text)
      → IsServed step opening least answer s q Memory t
  lost_turn s t q Passed v text h (inl e) = absurd (cc (e.1))
  lost_turn s t q Passed v text h (inr e) = absurd (cc e)
  lost_turn s t q (Decided cmd r) v text h e = absurd (not_receipt (PastAnswer v text) r v text r.accepted refl refl e.1)
  lost_turn s t q (Undecided cmd (Refusing d)) v text h e = absurd (cc (e.1))
  lost_turn s t q (Undecided cmd NoMemory) v text h e = absurd (cc (e.1))
  lost_turn s t q (Unprepared cmd (Refusing d)) v text h e = absurd (cc (e.1))
  lost_turn s t q (Unprepared cmd NoMemory) v text h e = absurd (cc (e.1))
  lost_turn s t q (Answered query w) v text h e = absurd (cc (e.1))
  lost_turn s t q (Unanswered query (BehindView a)) v text h e = absurd (cc (e.1))
  lost_turn s t q (Unanswered query (NotTaught d)) v text h e = absurd (cc (e.1))
  lost_turn s t q (Unanswered query NoView) v text h e = absurd (cc (e.1))
  lost_turn s t q (Recalled query at first w) v text h e = record {
    turn = Unrecalled query at NoPast;
    is = record { between = h.between; view = first; first = h.first; fault = h.past.kept; seen = h.past.seen };
    responds = (e.0, refl);
  }
  lost_turn s t q (Unread query at (BehindView a)) v text h e = absurd (cc (e.1))
  lost_turn s t q (Unread query at (NotTaught d)) v text h e = absurd (cc (e.1))
  lost_turn s t q (Unread query at NoView) v text h e = absurd (cc (e.1))
  lost_turn s t q (Unrecalled query at (BehindPast a)) v text h e = absurd (cc (e.1))
  lost_turn s t q (Unrecalled query at (PastNotTaught d)) v text h e = absurd (cc (e.1))
  lost_turn s t q (Unrecalled query at NoPast) v text h e = absurd (cc (e.1))
  lost_turn s t q (Compared query since upto first old new) v text h e = absurd (cc (e.1))
  lost_turn s t q (Reversed query since upto first old) v text h e = absurd (cc (e.1))
  lost_turn s t q (UnreadSpan query since upto (BehindView a)) v text h e = absurd (cc (e.1))
  lost_turn s t q (UnreadSpan query since upto (NotTaught d)) v text h e = absurd (cc (e.1))
  lost_turn s t q (UnreadSpan query since upto NoView) v text h e = absurd (cc (e.1))
  lost_turn s t q (Uncompared query since upto at (BehindPast a)) v text h e = absurd (cc (e.1))
  lost_turn s t q (Uncompared query since upto at (PastNotTaught d)) v text h e = absurd (cc (e.1))
  lost_turn s t q (Uncompared query since upto at NoPast) v text h e = absurd (cc (e.1))

  pub past_lost : LostLaw H step opening least answer
  past_lost s t request v text h = lost_turn s t request h.turn v text h.is h.responds
