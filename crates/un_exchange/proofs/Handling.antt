-- One request at the session.
use Rattle.std.proofs.Common.{◌≡◌, ◌⊎◌, ℕ, Bool, List, Option, refl, sym, subst, inl, inr}
use Rattle.un_publish.specs.Models.{SessionModel}
use Rattle.un_http.specs.States.{Holding}
use Rattle.un_http.specs.Answers.{given}
use Rattle.un_turns.specs.declared.request.Request.{Request}
use Rattle.un_turns.specs.declared.request.Request.TheVariants.{Command as Decide}
use Rattle.un_turns.specs.declared.request.Response.{Response}
use Rattle.un_turns.specs.declared.request.Response.TheVariants.{Nothing, Accepted, Refused, Answer, PastAnswer, BetweenAnswer, Reversed, Ahead, NotYet, Denied, Memory}
use Rattle.un_turns.specs.Turns.{Passed}
use Rattle.un_turns.specs.Served.{Answering, IsServed, IsReplyOf}
use Rattle.un_turns.specs.Truths.{LostLaw}
use Rattle.un_exchange.specs.declared.asked.Asked.{Asked}
use Rattle.un_exchange.specs.declared.asked.Asked.TheVariants.{Page}
use Rattle.un_exchange.specs.declared.end.LinkEnd.{LinkEnd}
use Rattle.un_exchange.specs.declared.respond.Outgoing.{Outgoing}
use Rattle.un_exchange.specs.declared.respond.Outgoing.TheVariants as out
use Rattle.un_exchange.specs.declared.status.Status.{Status}
use Rattle.un_exchange.specs.Pages.{PageModel, memory_page, page}
use Rattle.un_exchange.specs.Exchanges.{Printing, CanPrint, request_of, page_of}
use Rattle.un_exchange.specs.Writing.{IsOutgoing, Writes, page_bytes, outgoing_page, outgoing_end}
use Rattle.un_exchange.specs.Handling.{AsksSession, FitsIn, IsHandled, IsAnswered, IsWritten}

module _ {M C R K Q A : Type 0} (step : M → C → (M × (R × K)) ⊎ R) (fits : R → Type 0) where
  -- the session's response to a command or a query has a reply that fits
  pub fits_in : (q : Request C Q) (r : Response R A) → AsksSession q → ((cmd : C) → q ≡ Decide cmd → CanPrint step fits cmd) → IsReplyOf step q r → FitsIn fits r
  fits_in q Nothing a f h = subst (λ (z : Request C Q). AsksSession z) h a
  fits_in q (Accepted v reply) a f h = (f h.0 h.4).0 h.1 h.2 reply h.3 h.5
  fits_in q (Refused v reply) a f h = (f h.0 h.2).1 h.1 reply h.3
  fits_in q (Answer v answer) a f h = tt
  fits_in q (PastAnswer v answer) a f h = tt
  fits_in q (BetweenAnswer v answer) a f h = tt
  fits_in q (Reversed v since upto) a f h = tt
  fits_in q (Ahead n) a f h = tt
  fits_in q (NotYet n) a f h = tt
  fits_in q (Denied d) a f h = tt
  fits_in q Memory a f h = tt

module _ {C R Q A : Type 0} (p : Printing R A) where
  -- the page of a reply
  pub reply_written : (response : Response R A) (reply : R) (status : Status) (printed : List ℕ) → ((v : ℕ) × (response ≡ Accepted v reply)) ⊎ ((v : ℕ) × (response ≡ Refused v reply)) → p.reply reply ≡ page status printed
      → (written : Response R A) × IsWritten response written × ((asked : Asked C Q) → IsOutgoing p asked written printed (out.Printed status))
  reply_written response reply status printed (inl (v, e)) f = (response, inl refl, λ asked. rw e (record { says = sym f; ends = λ close. refl }))
  reply_written response reply status printed (inr (v, e)) f = (response, inl refl, λ asked. rw e (record { says = sym f; ends = λ close. refl }))

  -- the page of an answer at a past version, unless memory ran out
  pub past_written : (response : Response R A) (v : ℕ) (a : A) (printed : List ℕ) (o : Outgoing) → response ≡ PastAnswer v a → ((page : PageModel) × (page ≡ p.past v a) × (o ≡ out.Page page)) ⊎ (o ≡ out.Memory)
      → (written : Response R A) × IsWritten response written × ((asked : Asked C Q) → IsOutgoing p asked written printed o)
  past_written response v a printed o e (inl (page, f, h)) = (response, inl refl, λ asked. rw (e, h) (record { says = f; ends = λ close. refl }))
  past_written response v a printed o e (inr h) = (Memory, inr (v, a, e, refl), λ asked. rw h (record { says = refl; ends = λ close. refl }))

module _ {M C R H K Q A : Type 0} (step : M → C → (M × (R × K)) ⊎ R) (opening : List M) (least : Q → ℕ) (answer : Answering M Q A) (asks : List ℕ → List ℕ → List ℕ → Asked C Q → Type 0) (p : Printing R A) where
  -- memory ran out before it was known what is asked
  pub handled_memory : (s : SessionModel M C R H K) (inbox : Holding) (printed : List ℕ) → IsHandled step opening least answer asks p s s inbox printed out.Memory
  handled_memory s inbox printed = record {
    asked = Page memory_page;
    response = Memory;
    read = inr refl;
    served = record { turn = Passed; is = refl; responds = inr refl };
    outgoing = record { says = refl; ends = λ close. refl };
  }

  -- nothing is asked of the session
  pub handled_page : (s : SessionModel M C R H K) (inbox : Holding) (printed : List ℕ) (page : PageModel) → asks inbox.method inbox.path inbox.body (Page page)
      → IsHandled step opening least answer asks p s s inbox printed (out.Page page)
  handled_page s inbox printed page h = record {
    asked = Page page;
    response = Nothing;
    read = inl h;
    served = record { turn = Passed; is = refl; responds = inl (refl, refl) };
    outgoing = record { says = refl; ends = λ close. refl };
  }

  -- the session was asked
  pub handled_session : (s t : SessionModel M C R H K) (inbox : Holding) (printed : List ℕ) (o : Outgoing) (asked : Asked C Q) → asks inbox.method inbox.path inbox.body asked
      → (response : Response R A) × IsServed step opening least answer s (request_of asked) response t × ((a : Asked C Q) → IsOutgoing p a response printed o)
      → IsHandled step opening least answer asks p s t inbox printed o
  handled_session s t inbox printed o asked h served = record {
    asked = asked;
    response = served.0;
    read = inl h;
    served = served.1;
    outgoing = served.2 asked;
  }

  -- what is written was handled, also where an answer was lost
  pub handled_written : LostLaw H step opening least answer → (s t : SessionModel M C R H K) (q : Request C Q) (response : Response R A) (printed : List ℕ) (o : Outgoing) → IsServed step opening least answer s q response t
      → (written : Response R A) × IsWritten response written × ((a : Asked C Q) → IsOutgoing p a written printed o)
      → (r : Response R A) × IsServed step opening least answer s q r t × ((a : Asked C Q) → IsOutgoing p a r printed o)
  handled_written law s t q response printed o served w =
      let P = λ (r : Response R A). IsServed step opening least answer s q r t in
      let now : P w.0 =
      elim w.1 as (λ _. P w.0) [
        | inl e ↦ subst P (sym e) served
        | inr l ↦ subst P (sym l.3) (law s t q l.0 l.1 (subst P l.2 served))
      ] in
      (w.0, now, w.2)

  -- what was to be written was the response
  pub answered_by : (s t : SessionModel M C R H K) (k k' : Option (List ℕ)) (inbox : Holding) (close : Bool) (printed text : List ℕ) (o : Outgoing) (result : Option LinkEnd)
      → IsHandled step opening least answer asks p s t inbox printed o → text ≡ printed → Writes k k' (page_bytes (outgoing_page text o) (outgoing_end close o)) (outgoing_end close o) result
      → IsAnswered step opening least answer asks p s t k k' inbox close result
  answered_by s t k k' inbox close printed text o result h same w = record {
    exchange = record { request = given inbox close; asked = h.asked; response = h.response };
    request = refl;
    asked = h.read;
    served = h.served;
    writes =
        subst (λ (e : Option LinkEnd). Writes k k' (page_bytes (page_of p h.asked h.response) e) e result) (h.outgoing.ends close)
        (subst (λ (g : PageModel). Writes k k' (page_bytes g (outgoing_end close o)) (outgoing_end close o) result) h.outgoing.says
        (subst (λ (x : List ℕ). Writes k k' (page_bytes (outgoing_page x o) (outgoing_end close o)) (outgoing_end close o) result) same w));
  }
