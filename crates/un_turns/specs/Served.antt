-- The response to a request, by what the request did to the session.
use Rattle.std.specs.Prelude.{◌≡◌, ◌⊎◌, ℕ, max, if◌then◌else◌, Option, List, [], ◌∷◌, map}
use Rattle.std.proofs.Common.{inl, inr}
use Rattle.std.specs.Arc.{arc_value}
use Rattle.un_publish.specs.Models.{SessionModel}
use Rattle.un_publish.specs.declared.session.SessionFault.{SessionFault}
use Rattle.un_publish.specs.declared.session.SessionFault.TheVariants.{Denied as Refusing, Memory as NoMemory}
use Rattle.un_journal.specs.declared.receipt.Receipt.{Receipt}
use Rattle.un_desk.specs.declared.desk.ViewFault.{ViewFault}
use Rattle.un_desk.specs.declared.desk.ViewFault.TheVariants.{Ahead as BehindView, Denied as NotTaught, Memory as NoView}
use Rattle.un_turns.specs.declared.request.Request.{Request}
use Rattle.un_desk.specs.declared.past.PastFault.{PastFault}
use Rattle.un_desk.specs.declared.past.PastFault.TheVariants.{Ahead as BehindPast, Denied as PastNotTaught, Memory as NoPast}
use Rattle.un_turns.specs.declared.request.Request.TheVariants.{Other, Command, Query, Past, Between}
use Rattle.un_turns.specs.declared.request.Response.{Response}
use Rattle.un_turns.specs.declared.request.Span.{Span}
use Rattle.un_turns.specs.declared.request.Response.TheVariants.{Nothing, Accepted, Refused, Answer, PastAnswer, BetweenAnswer, Reversed, Ahead, NotYet, Denied, Memory}
use Rattle.un_turns.specs.Turns.{Turn, IsTurn, Passed, Decided, Undecided, Unprepared, Answered, Unanswered, Recalled, Unread, Unrecalled, Compared, Reversed as Turned, UnreadSpan, Uncompared, end_of, later_of}
use Rattle.un_turns.specs.Conversations.{Conversed}

-- what queries are answered: at one state, and about two states
pub record Answering (M Q A : Type 0) : Type 0 where
  pub at : M → Q → A
  pub between : Span → M → M → Q → A

abbrev pub answering : {M Q A : Type 0} → (M → Q → A) → (Span → M → M → Q → A) → Answering M Q A
answering at between = record { at = at; between = between }

-- the two versions, and the one that is reported
abbrev pub span_of : ℕ → Option ℕ → ℕ → Span
span_of since upto version = record { since = since; upto = end_of upto version; version = later_of upto version }

module _ {R A : Type 0} where
  abbrev pub fault_response : SessionFault → Response R A
  fault_response (Refusing d) = Denied d
  fault_response NoMemory = Memory

  abbrev pub view_response : ViewFault → Response R A
  view_response (BehindView a) = Ahead a
  view_response (NotTaught d) = Denied d
  view_response NoView = Memory

  abbrev pub past_response : PastFault → Response R A
  past_response (BehindPast a) = NotYet a
  past_response (PastNotTaught d) = Denied d
  past_response NoPast = Memory

  -- the response, or the one for want of memory
  abbrev pub IsAnswerOr : Response R A → Response R A → Response R A → Type 0
  IsAnswerOr memory answer response = (response ≡ memory) ⊎ (response ≡ answer)

module _ {M C R H K A : Type 0} where
  abbrev pub receipt_response : Receipt M C R H K → Response R A
  receipt_response r = if r.accepted then Accepted r.version r.reply else Refused r.version r.reply

module _ {M C R H K Q A : Type 0} where
  -- The response to a turn: a command that is decided gets its reply, and a query that is answered the answer at the view's state. At a past
  -- version that is the past view's state, and the version is the greater of the first view's and the past one; about two versions
  -- it is the two views' states.
  -- A request that did nothing asked for nothing, or memory ran out before it could.
  abbrev pub IsResponseOf : Answering M Q A → Request C Q → Turn M C R H K Q → Response R A → Type 0
  IsResponseOf answer request Passed response = ((request ≡ Other) × (response ≡ Nothing)) ⊎ (response ≡ Memory)
  IsResponseOf answer request (Decided cmd r) response = (request ≡ Command cmd) × (response ≡ receipt_response r)
  IsResponseOf answer request (Undecided cmd f) response = (request ≡ Command cmd) × (response ≡ fault_response f)
  IsResponseOf answer request (Unprepared cmd f) response = (request ≡ Command cmd) × (response ≡ fault_response f)
  IsResponseOf answer request (Answered query v) response = (request ≡ Query query) × (response ≡ Answer v.version (answer.at (arc_value v.state) query))
  IsResponseOf answer request (Unanswered query f) response = (request ≡ Query query) × (response ≡ view_response f)
  IsResponseOf answer request (Recalled query at v w) response = (request ≡ Past at query) × (response ≡ PastAnswer (max v.version at) (answer.at (arc_value w.state) query))
  IsResponseOf answer request (Unread query at f) response = (request ≡ Past at query) × (response ≡ view_response f)
  IsResponseOf answer request (Unrecalled query at f) response = (request ≡ Past at query) × (response ≡ past_response f)
  IsResponseOf answer request (Compared query since upto v old new) response =
      (request ≡ Between since upto query)
      × (response ≡ BetweenAnswer (later_of upto v.version) (answer.between (span_of since upto v.version) (arc_value old.state) (arc_value new.state) query))
  IsResponseOf answer request (Turned query since upto v old) response = (request ≡ Between since upto query) × (response ≡ Reversed v.version since (end_of upto v.version))
  IsResponseOf answer request (UnreadSpan query since upto f) response = (request ≡ Between since upto query) × (response ≡ view_response f)
  IsResponseOf answer request (Uncompared query since upto at f) response = (request ≡ Between since upto query) × (response ≡ past_response f)

  -- a request was handled: some turn took the session from s to t, and this is its response
  pub record IsServed (step : M → C → (M × (R × K)) ⊎ R) (opening : List M) (least : Q → ℕ) (answer : Answering M Q A) (s : SessionModel M C R H K) (request : Request C Q) (response : Response R A) (t : SessionModel M C R H K) : Type 0 where
    pub turn : Turn M C R H K Q
    pub is : IsTurn step opening least s turn t
    pub responds : IsResponseOf answer request turn response

  -- the same by what queries are answered at one state, and about two states
  abbrev pub ServesRequest : (M → C → (M × (R × K)) ⊎ R) → List M → (Q → ℕ) → (M → Q → A) → (Span → M → M → Q → A) → SessionModel M C R H K → Request C Q → Response R A → SessionModel M C R H K → Type 0
  ServesRequest step opening least at between s request response t = IsServed step opening least (answering at between) s request response t

module _ {M C R K Q A : Type 0} where
  -- a reply is that of a step of the request's command at some state, and only a request that asks nothing has no reply
  abbrev pub IsReplyOf : (M → C → (M × (R × K)) ⊎ R) → Request C Q → Response R A → Type 0
  IsReplyOf step request (Accepted v reply) = (cmd : C) × (s : M) × (t : M) × (mark : K) × (request ≡ Command cmd) × (step s cmd ≡ inl (t, (reply, mark)))
  IsReplyOf step request (Refused v reply) = (cmd : C) × (s : M) × (request ≡ Command cmd) × (step s cmd ≡ inr reply)
  IsReplyOf step request Nothing = request ≡ Other
  IsReplyOf step request (Answer v text) = Unit {0}
  IsReplyOf step request (PastAnswer v text) = Unit {0}
  IsReplyOf step request (BetweenAnswer v text) = Unit {0}
  IsReplyOf step request (Reversed v since upto) = Unit {0}
  IsReplyOf step request (Ahead a) = Unit {0}
  IsReplyOf step request (NotYet a) = Unit {0}
  IsReplyOf step request (Denied d) = Unit {0}
  IsReplyOf step request Memory = Unit {0}

-- a request, what it did, and its response
pub record Exchange (M C R H K Q A : Type 0) : Type 0 where
  pub request : Request C Q
  pub turn : Turn M C R H K Q
  pub response : Response R A

module _ {M C R H K Q A : Type 0} where
  abbrev pub requests_of : List (Exchange M C R H K Q A) → List (Request C Q)
  requests_of xs = map (λ x. x.request) xs

  abbrev pub turns_of : List (Exchange M C R H K Q A) → List (Turn M C R H K Q)
  turns_of xs = map (λ x. x.turn) xs

  abbrev pub responses_of : List (Exchange M C R H K Q A) → List (Response R A)
  responses_of xs = map (λ x. x.response) xs

  -- each response is that of its turn
  abbrev pub AreResponses : Answering M Q A → List (Exchange M C R H K Q A) → Type 0
  AreResponses answer [] = Unit {0}
  AreResponses answer (x ∷ xs) = IsResponseOf answer x.request x.turn x.response × AreResponses answer xs

  -- these requests were handled, one after another, and had these responses
  pub record AreServed (step : M → C → (M × (R × K)) ⊎ R) (opening : List M) (least : Q → ℕ) (answer : Answering M Q A) (s : SessionModel M C R H K) (requests : List (Request C Q)) (responses : List (Response R A)) (t : SessionModel M C R H K) : Type 0 where
    pub exchanges : List (Exchange M C R H K Q A)
    pub asked : requests_of exchanges ≡ requests
    pub answered : responses_of exchanges ≡ responses
    pub conversed : Conversed step opening least s (turns_of exchanges) t
    pub responds : AreResponses answer exchanges
