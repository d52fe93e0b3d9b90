-- How one request is handled.
use Rattle.std.specs.Prelude.{◌≡◌, ◌⊎◌, ℕ, Bool, List, Option, ⊤}
use Rattle.un_publish.specs.Models.{SessionModel}
use Rattle.un_http.specs.States.{Holding}
use Rattle.un_http.specs.Answers.{given}
use Rattle.un_turns.specs.Served.{Answering, IsServed}
use Rattle.un_turns.specs.declared.request.Request.{Request}
use Rattle.un_turns.specs.declared.request.Request.TheVariants.{Other, Command, Query, Past, Between}
use Rattle.un_turns.specs.declared.request.Response.{Response}
use Rattle.un_turns.specs.declared.request.Response.TheVariants.{Nothing, Accepted, Refused, Answer, PastAnswer, BetweenAnswer, Reversed, Ahead, NotYet, Denied, Memory}
use Rattle.un_exchange.specs.declared.asked.Asked.{Asked}
use Rattle.un_exchange.specs.declared.end.LinkEnd.{LinkEnd}
use Rattle.un_exchange.specs.declared.respond.Outgoing.{Outgoing}
use Rattle.un_exchange.specs.Exchanges.{Printing, Exchange, IsAsked, request_of, end_after, bytes_of}
use Rattle.un_exchange.specs.Writing.{IsOutgoing, Writes}

module _ {C Q : Type 0} where
  -- a command, or a query at one version or about two
  abbrev pub AsksSession : Request C Q → Type 0
  AsksSession Other = ⊥
  AsksSession (Command cmd) = ⊤
  AsksSession (Query query) = ⊤
  AsksSession (Past at query) = ⊤
  AsksSession (Between since upto query) = ⊤

module _ {R A : Type 0} where
  -- a response of the session, whose reply fits
  abbrev pub FitsIn : (R → Type 0) → Response R A → Type 0
  FitsIn fits Nothing = ⊥
  FitsIn fits (Accepted v reply) = fits reply
  FitsIn fits (Refused v reply) = fits reply
  FitsIn fits (Answer v answer) = ⊤
  FitsIn fits (PastAnswer v answer) = ⊤
  FitsIn fits (BetweenAnswer v answer) = ⊤
  FitsIn fits (Reversed v since upto) = ⊤
  FitsIn fits (Ahead a) = ⊤
  FitsIn fits (NotYet a) = ⊤
  FitsIn fits (Denied d) = ⊤
  FitsIn fits Memory = ⊤

  -- the response that is written: that of the session; or memory ran out when the answer at a past version was printed
  abbrev pub IsWritten : Response R A → Response R A → Type 0
  IsWritten response written = (written ≡ response) ⊎ ((v : ℕ) × (a : A) × (response ≡ PastAnswer v a) × (written ≡ Memory))

module _ {M C R H K Q A : Type 0} where
  -- a request was handled, and this is to be written
  pub record IsHandled (step : M → C → (M × (R × K)) ⊎ R) (opening : List M) (least : Q → ℕ) (answer : Answering M Q A) (asks : List ℕ → List ℕ → List ℕ → Asked C Q → Type 0) (p : Printing R A)
      (s t : SessionModel M C R H K) (inbox : Holding) (printed : List ℕ) (out : Outgoing) : Type 0 where
    pub asked : Asked C Q
    pub response : Response R A
    pub read : asks inbox.method inbox.path inbox.body asked ⊎ (response ≡ Memory)
    pub served : IsServed step opening least answer s (request_of asked) response t
    pub outgoing : IsOutgoing p asked response printed out

  -- a request was handled, and its response written, unless a write failed
  pub record IsAnswered (step : M → C → (M × (R × K)) ⊎ R) (opening : List M) (least : Q → ℕ) (answer : Answering M Q A) (asks : List ℕ → List ℕ → List ℕ → Asked C Q → Type 0) (p : Printing R A)
      (s t : SessionModel M C R H K) (taken taken' : Option (List ℕ)) (inbox : Holding) (close : Bool) (result : Option LinkEnd) : Type 0 where
    pub exchange : Exchange C R Q A
    pub request : exchange.request ≡ given inbox close
    pub asked : IsAsked asks exchange
    pub served : IsServed step opening least answer s (request_of exchange.asked) exchange.response t
    pub writes : Writes taken taken' (bytes_of p exchange) (end_after exchange.request.close exchange.response) result
