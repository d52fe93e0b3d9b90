-- What holds of a link of the server.
use Rattle.std.specs.Prelude.{◌≡◌, ◌≤◌, ◌⊎◌, ℕ, ◌-◌, List, [], ◌∷◌, Option, take, ⊤}
use Rattle.std.specs.List.{All}
use Rattle.un_geom.specs.Rectangle.{Rectangle}
use Rattle.un_schema.specs.Sound.{IsCatalog}
use Rattle.un_tiers.specs.declared.setup.Setup.{Setup}
use Rattle.un_publish.specs.Models.{SessionModel}
use Rattle.un_ask.specs.declared.request.Command.{Command}
use Rattle.un_ask.specs.declared.query.Query.{Query}
use Rattle.un_ask.specs.declared.query.Asked.TheVariants.{Version}
use Rattle.un_ask.specs.declared.reply.Reply.{Reply}
use Rattle.un_core.specs.declared.prepared.Prepared.{Prepared}
use Rattle.un_core.specs.State.{State, opening}
use Rattle.un_core.specs.Commands.{step}
use Rattle.un_core.specs.Answers.{answer}
use Rattle.un_core.specs.History.{after_all}
use Rattle.un_core.specs.HistoryAnswers.{answer_after, command_reply_after}
use Rattle.un_core.specs.Logs.{LogEntry, history_of}
use Rattle.un_turns.specs.declared.request.Span.{Span}
use Rattle.un_turns.specs.Turns.{end_of}
use Rattle.un_turns.specs.Served.{Answering, answering}
use Rattle.un_turns.specs.declared.request.Response.{Response}
use Rattle.un_turns.specs.declared.request.Response.TheVariants.{Accepted, Refused, Answer, PastAnswer, BetweenAnswer}
use Rattle.un_exchange.specs.declared.asked.Asked.TheVariants as asked
use Rattle.un_exchange.specs.declared.end.LinkEnd.{LinkEnd}
use Rattle.un_exchange.specs.Pages.{PageModel}
use Rattle.un_exchange.specs.Exchanges.{Exchange}
use Rattle.un_exchange.specs.Links.{HasServed, HasNoRoom}
use Rattle.un_serve.specs.declared.asking.NetQuery.{NetQuery}
use Rattle.un_serve.specs.declared.asking.NetQuery.TheVariants.{At, Changes}
use Rattle.un_serve.specs.Printing.{reply_page, changes_page, printing, version_of}
use Rattle.un_serve.specs.Asking.{NetAsked, Asks}

-- how many entries of the log a query asks for at least
abbrev pub least_of : NetQuery → ℕ
least_of (At seen query) = seen
least_of (Changes q) = q.seen

-- the question that a query is at one state: a query for changes asks for the version there
abbrev pub question_of : NetQuery → Query
question_of (At seen query) = query
question_of (Changes q) = record { seen = 0; what = Version }

-- the answer of a query at a state, as a page
abbrev pub answer_of : State → NetQuery → PageModel
answer_of s q = reply_page (answer s (question_of q))

-- the answer of a query about two states: a page of the differences of what they keep; or that of another question, at the second one
abbrev pub between_of : Span → State → State → NetQuery → PageModel
between_of span old new (At seen query) = reply_page (answer new query)
between_of span old new (Changes q) = changes_page new.setup span old.kept new.kept q

-- what queries are answered
abbrev pub answers_of : Answering State NetQuery PageModel
answers_of = answering answer_of between_of

-- the same by the accepted commands that lead to the two states
abbrev pub between_after : Setup → List Command → List Command → Span → NetQuery → PageModel
between_after S older newer span (At seen query) = reply_page (answer_after S newer query)
between_after S older newer span (Changes q) = changes_page S span (after_all S older).kept (after_all S newer).kept q

-- a session of a network
abbrev pub NetSession : Type 0
NetSession = SessionModel State Command Reply Prepared (List Rectangle)

-- a request of a link and its response
abbrev pub NetExchange : Type 0
NetExchange = Exchange Command Reply NetQuery PageModel

-- A response is determined by the accepted commands: an accepted command's reply by those before its entry, a refused one's and an answer by the first
-- so many as the version says, an answer at a past version by the first so many as that one says, which is none over the response's, and an answer about two versions
-- by the first so many as each of them says, of which the first is not over the second, and that is not over the response's.
abbrev pub IsOfHistory : Setup → List LogEntry → NetAsked → Response Reply PageModel → Type 0
IsOfHistory S seen (asked.Command c) (Accepted v r) = r ≡ command_reply_after S (history_of (take (v - 1) seen)) c
IsOfHistory S seen (asked.Command c) (Refused v r) = r ≡ command_reply_after S (history_of (take v seen)) c
IsOfHistory S seen (asked.Query q) (Answer v page) = page ≡ reply_page (answer_after S (history_of (take v seen)) (question_of q))
IsOfHistory S seen (asked.Past at q) (PastAnswer v page) = (at ≤ v) × (page ≡ reply_page (answer_after S (history_of (take at seen)) (question_of q)))
IsOfHistory S seen (asked.Between since upto q) (BetweenAnswer v page) =
    (since ≤ end_of upto v) × (end_of upto v ≤ v) × (page
    ≡ between_after S (history_of (take since seen)) (history_of (take (end_of upto v) seen)) (record { since = since; upto = end_of upto v; version = v }) q)
IsOfHistory S seen _ _ = ⊤

abbrev pub AreOfHistory : Setup → List LogEntry → List NetExchange → Type 0
AreOfHistory S seen xs = All (λ x. IsOfHistory S seen x.asked x.response) xs

-- a reply reports the version of its response, and an answer at a past version none over it
abbrev pub IsAtVersion : Response Reply PageModel → Type 0
IsAtVersion (Accepted v r) = version_of r ≡ v
IsAtVersion (Refused v r) = version_of r ≡ v
IsAtVersion (Answer v page) = (r : Reply) × (page ≡ reply_page r) × (version_of r ≡ v)
IsAtVersion (PastAnswer v page) = (r : Reply) × (page ≡ reply_page r) × (version_of r ≤ v)
IsAtVersion _ = ⊤

abbrev pub AreAtVersions : List NetExchange → Type 0
AreAtVersions xs = All (λ x. IsAtVersion x.response) xs

-- All that is promised of a link: its requests were handled in order, and their responses written; each response is true of what the session has
-- seen; and if the network was opened without features, each response is determined by the accepted commands, and each reply reports the version of
-- its response.
pub record HasServedNet (first : List State) (s t : NetSession) (left left' taken taken' : Option (List ℕ)) (end : LinkEnd) : Type 0 where
  pub link : HasServed step first least_of answers_of Asks printing s t left left' taken taken' end
  pub history : (S : Setup) → IsCatalog S.schema → first ≡ opening S ∷ [] → AreOfHistory S t.seen link.exchanges
  pub versions : (S : Setup) → IsCatalog S.schema → first ≡ opening S ∷ [] → AreAtVersions link.exchanges

abbrev pub ServesNet : List State → NetSession → NetSession → Option (List ℕ) → Option (List ℕ) → Option (List ℕ) → Option (List ℕ) → LinkEnd → Type 0
ServesNet first s t left left' taken taken' end = HasServedNet first s t left left' taken taken' end ⊎ HasNoRoom s t left left' taken taken' end

-- the same by the functions that say which bytes of the link are left and which it has taken
abbrev pub ServesNetLink : {L : Type 0} → List State → NetSession → NetSession → (L → Option (List ℕ)) → (L → Option (List ℕ)) → L → L → LinkEnd → Type 0
ServesNetLink first s t left taken link link' end = ServesNet first s t (left link) (left link') (taken link) (taken link') end
