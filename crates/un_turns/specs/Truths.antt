-- What holds of the requests that a session handles and their responses. What happened between the two is not named.
use Rattle.std.specs.Prelude.{◌≡◌, ◌⊎◌, ◌≤◌, ◌<◌, ◌+◌, ◌-◌, ◌^◌, min, max, ℕ, Option, Some, List, [], ◌∷◌, ◌++◌, length, map, take, flat_map}
use Rattle.std.proofs.Common.{inr}
use mathlib.Core.List.{IsPrefix}
use Rattle.un_machine.specs.declared.Entry.{Entry}
use Rattle.un_machine.specs.Logs.{Reaches}
use Rattle.un_publish.specs.Models.{SessionModel}
use Rattle.un_turns.specs.declared.request.Request.{Request}
use Rattle.un_turns.specs.declared.request.Request.TheVariants.{Other, Command, Query, Past, Between}
use Rattle.un_turns.specs.declared.request.Response.{Response}
use Rattle.un_turns.specs.declared.request.Response.TheVariants.{Nothing, Accepted, Refused, Answer, PastAnswer, BetweenAnswer, Reversed, Ahead, NotYet, Denied, Memory}
use Rattle.un_turns.specs.Own.{own_entries, IsWithin}
use Rattle.un_turns.specs.Conversations.{Rises, IsLastEntry, wait_if_later, decision}
use Rattle.un_turns.specs.Turns.{end_of}
use Rattle.un_turns.specs.Served.{Answering, IsServed, IsReplyOf, AreServed}

module _ {R A : Type 0} where
  -- the version that a response reports
  abbrev pub versions_in : Response R A → List ℕ
  versions_in Nothing = []
  versions_in (Accepted v reply) = v ∷ []
  versions_in (Refused v reply) = v ∷ []
  versions_in (Answer v answer) = v ∷ []
  versions_in (PastAnswer v answer) = v ∷ []
  versions_in (BetweenAnswer v answer) = v ∷ []
  versions_in (Reversed v since upto) = v ∷ []
  versions_in (Ahead a) = []
  versions_in (NotYet a) = []
  versions_in (Denied d) = []
  versions_in Memory = []

  abbrev pub denials_in : Response R A → ℕ
  denials_in Nothing = 0
  denials_in (Accepted v reply) = 0
  denials_in (Refused v reply) = 0
  denials_in (Answer v answer) = 0
  denials_in (PastAnswer v answer) = 0
  denials_in (BetweenAnswer v answer) = 0
  denials_in (Reversed v since upto) = 0
  denials_in (Ahead a) = 0
  denials_in (NotYet a) = 0
  denials_in (Denied d) = 1
  denials_in Memory = 0

  abbrev pub all_denials : List (Response R A) → ℕ
  all_denials [] = 0
  all_denials (r ∷ rs) = denials_in r + all_denials rs

  -- how many entries are known after a response: those known before it, or the version that it reports
  abbrev pub known_in : ℕ → Response R A → ℕ
  known_in known Nothing = known
  known_in known (Accepted v reply) = max known v
  known_in known (Refused v reply) = max known v
  known_in known (Answer v answer) = max known v
  known_in known (PastAnswer v answer) = max known v
  known_in known (BetweenAnswer v answer) = max known v
  known_in known (Reversed v since upto) = max known v
  known_in known (Ahead a) = known
  known_in known (NotYet a) = known
  known_in known (Denied d) = known
  known_in known Memory = known

module _ {C Q : Type 0} where
  -- the request is this query, at the last state, at a past version or about two versions
  abbrev pub IsQuery : Request C Q → Q → Type 0
  IsQuery request query = (request ≡ Query query) ⊎ (((at : ℕ) × (request ≡ Past at query)) ⊎ ((since : ℕ) × (upto : Option ℕ) × (request ≡ Between since upto query)))

  -- the request names this version: as the past one, or as one of two
  abbrev pub Names : Request C Q → ℕ → Type 0
  Names request at =
      ((query : Q) × (request ≡ Past at query))
      ⊎ ((since : ℕ) × (upto : Option ℕ) × (query : Q) × (request ≡ Between since upto query) × ((at ≡ since) ⊎ (upto ≡ Some at)))

  -- how many times a request may wait
  abbrev pub waits_in : (Q → ℕ) → ℕ → Request C Q → ℕ
  waits_in least known Other = 0
  waits_in least known (Command cmd) = 1
  waits_in least known (Query query) = wait_if_later known (least query)
  waits_in least known (Past at query) = wait_if_later known (least query) + 1
  waits_in least known (Between since upto query) = wait_if_later known (least query) + 2

module _ {C R Q A : Type 0} where
  -- the command of a request with its reply, if it was accepted
  abbrev pub accepted_in : Request C Q → Response R A → List (C × R)
  accepted_in Other response = []
  accepted_in (Query query) response = []
  accepted_in (Past at query) response = []
  accepted_in (Between since upto query) response = []
  accepted_in (Command cmd) Nothing = []
  accepted_in (Command cmd) (Accepted v reply) = (cmd, reply) ∷ []
  accepted_in (Command cmd) (Refused v reply) = []
  accepted_in (Command cmd) (Answer v answer) = []
  accepted_in (Command cmd) (PastAnswer v answer) = []
  accepted_in (Command cmd) (BetweenAnswer v answer) = []
  accepted_in (Command cmd) (Reversed v since upto) = []
  accepted_in (Command cmd) (Ahead a) = []
  accepted_in (Command cmd) (NotYet a) = []
  accepted_in (Command cmd) (Denied d) = []
  accepted_in (Command cmd) Memory = []

  abbrev pub all_accepted : List (Request C Q) → List (Response R A) → List (C × R)
  all_accepted [] responses = []
  all_accepted (q ∷ qs) [] = []
  all_accepted (q ∷ qs) (r ∷ rs) = accepted_in q r ++ all_accepted qs rs

  abbrev pub all_waits : (Q → ℕ) → ℕ → List (Request C Q) → List (Response R A) → ℕ
  all_waits least known [] responses = 0
  all_waits least known (q ∷ qs) [] = 0
  all_waits least known (q ∷ qs) (r ∷ rs) = waits_in least known q + all_waits least (known_in known r) qs rs

module _ {Q : Type 0} where
  -- Of two versions the first is not over the second, which is not over the one that is reported; that one is no less than the query asks for,
  -- and no more than has been seen.
  pub record IsSpanned (least : Q → ℕ) (query : Q) (since : ℕ) (upto : Option ℕ) (v seen : ℕ) : Type 0 where
    pub asked : least query ≤ v
    pub order : since ≤ end_of upto v
    pub within : end_of upto v ≤ v
    pub known : v ≤ seen

module _ {M C R H K Q A : Type 0} where
  -- A response is true of the entries that the session has seen in the end: an accepted command is entry v, with this reply; a refused one was
  -- refused at the state after v entries; a query is answered at the state after v entries, and v is no less than it asked for; at a past version it
  -- is answered at the state after that many entries, and v is no less than that either; about two versions it
  -- is answered by the states after that many entries each, and is told so where the first is over the second; and a query that asked for more
  -- entries than there were, or names a version that was over them, is told so.
  abbrev pub IsTrueOf : (M → C → (M × (R × K)) ⊎ R) → List M → (Q → ℕ) → Answering M Q A → ℕ → List (Entry M C R H K) → Request C Q → Response R A → Type 0
  IsTrueOf step opening least answer number seen request Nothing = request ≡ Other
  IsTrueOf step opening least answer number seen request (Accepted v reply) =
      (cmd : C) × (s : M) × (request ≡ Command cmd) × (v ≡ length (take v seen)) × Reaches step opening (take v seen) s × IsLastEntry number (take v seen) cmd reply
  IsTrueOf step opening least answer number seen request (Refused v reply) =
      (cmd : C) × (s : M) × (request ≡ Command cmd) × (v ≡ length (take v seen)) × Reaches step opening (take v seen) s × (step s cmd ≡ inr reply)
  IsTrueOf step opening least answer number seen request (Answer v text) =
      (query : Q) × (s : M) × (request ≡ Query query) × (least query ≤ v) × (v ≤ length seen) × Reaches step opening (take v seen) s × (text ≡ answer.at s query)
  IsTrueOf step opening least answer number seen request (PastAnswer v text) =
      (at : ℕ) × (query : Q) × (s : M) × (request ≡ Past at query) × (least query ≤ v) × (at ≤ v) × (v ≤ length seen) × Reaches step opening (take at seen) s × (text ≡ answer.at s query)
  IsTrueOf step opening least answer number seen request (BetweenAnswer v text) =
      (since : ℕ) × (upto : Option ℕ) × (query : Q) × (old : M) × (new : M) × (request ≡ Between since upto query)
      × IsSpanned least query since upto v (length seen) × Reaches step opening (take since seen) old × Reaches step opening (take (end_of upto v) seen) new
      × (text ≡ answer.between (record { since = since; upto = end_of upto v; version = v }) old new query)
  IsTrueOf step opening least answer number seen request (Reversed v first second) =
      (upto : Option ℕ) × (query : Q) × (request ≡ Between first upto query) × (second ≡ end_of upto v) × (second < first) × (least query ≤ v) × (v ≤ length seen)
  IsTrueOf step opening least answer number seen request (Ahead a) =
      (query : Q) × IsQuery request query × (a.seen ≡ least query) × (a.latest ≤ length seen) × (a.latest < least query)
  IsTrueOf step opening least answer number seen request (NotYet a) =
      (at : ℕ) × Names request at × (a.seen ≡ at) × (a.latest ≤ length seen) × (a.latest < at)
  IsTrueOf step opening least answer number seen request (Denied d) = Unit {0}
  IsTrueOf step opening least answer number seen request Memory = Unit {0}

  abbrev pub AreTrueOf : (M → C → (M × (R × K)) ⊎ R) → List M → (Q → ℕ) → Answering M Q A → ℕ → List (Entry M C R H K) → List (Request C Q) → List (Response R A) → Type 0
  AreTrueOf step opening least answer number seen [] [] = Unit {0}
  AreTrueOf step opening least answer number seen [] (r ∷ rs) = ⊥
  AreTrueOf step opening least answer number seen (q ∷ qs) [] = ⊥
  AreTrueOf step opening least answer number seen (q ∷ qs) (r ∷ rs) = IsTrueOf step opening least answer number seen q r × AreTrueOf step opening least answer number seen qs rs

  -- The same of the entries that the session has then seen, which are all of them. At a past version the entries that were read before it may be fewer.
  abbrev pub IsTrueAt : (M → C → (M × (R × K)) ⊎ R) → List M → (Q → ℕ) → Answering M Q A → ℕ → List (Entry M C R H K) → Request C Q → Response R A → Type 0
  IsTrueAt step opening least answer number seen request Nothing = request ≡ Other
  IsTrueAt step opening least answer number seen request (Accepted v reply) =
      (cmd : C) × (s : M) × (request ≡ Command cmd) × (v ≡ length seen) × Reaches step opening seen s × IsLastEntry number seen cmd reply
  IsTrueAt step opening least answer number seen request (Refused v reply) =
      (cmd : C) × (s : M) × (request ≡ Command cmd) × (v ≡ length seen) × Reaches step opening seen s × (step s cmd ≡ inr reply)
  IsTrueAt step opening least answer number seen request (Answer v text) =
      (query : Q) × (s : M) × (request ≡ Query query) × (least query ≤ v) × (v ≡ length seen) × Reaches step opening seen s × (text ≡ answer.at s query)
  IsTrueAt step opening least answer number seen request (PastAnswer v text) =
      (at : ℕ) × (query : Q) × (s : M) × (request ≡ Past at query) × (least query ≤ v) × (at ≤ v) × (v ≤ length seen) × Reaches step opening (take at seen) s × (text ≡ answer.at s query)
  IsTrueAt step opening least answer number seen request (BetweenAnswer v text) =
      (since : ℕ) × (upto : Option ℕ) × (query : Q) × (old : M) × (new : M) × (request ≡ Between since upto query)
      × IsSpanned least query since upto v (length seen) × Reaches step opening (take since seen) old × Reaches step opening (take (end_of upto v) seen) new
      × (text ≡ answer.between (record { since = since; upto = end_of upto v; version = v }) old new query)
  IsTrueAt step opening least answer number seen request (Reversed v first second) =
      (upto : Option ℕ) × (query : Q) × (request ≡ Between first upto query) × (second ≡ end_of upto v) × (second < first) × (least query ≤ v) × (v ≤ length seen)
  IsTrueAt step opening least answer number seen request (Ahead a) =
      (query : Q) × IsQuery request query × (a.seen ≡ least query) × (a.latest ≡ length seen) × (length seen < least query)
  IsTrueAt step opening least answer number seen request (NotYet a) =
      (at : ℕ) × Names request at × (a.seen ≡ at) × (a.latest ≡ length seen) × (length seen < at)
  IsTrueAt step opening least answer number seen request (Denied d) = Unit {0}
  IsTrueAt step opening least answer number seen request Memory = Unit {0}

  -- each response is true of what the session has then seen, which begins with what it had seen before
  abbrev pub AreTrueFrom : (M → C → (M × (R × K)) ⊎ R) → List M → (Q → ℕ) → Answering M Q A → ℕ → List (Entry M C R H K) → List (Request C Q) → List (Response R A) → List (Entry M C R H K) → Type 0
  AreTrueFrom step opening least answer number from [] [] to = to ≡ from
  AreTrueFrom step opening least answer number from [] (r ∷ rs) to = ⊥
  AreTrueFrom step opening least answer number from (q ∷ qs) [] to = ⊥
  AreTrueFrom step opening least answer number from (q ∷ qs) (r ∷ rs) to =
      (seen : List (Entry M C R H K)) × IsPrefix from seen × IsTrueAt step opening least answer number seen q r × AreTrueFrom step opening least answer number seen qs rs to

  -- All that is promised of requests that are handled one after another, and their responses: what the session has seen begins with what it had
  -- seen; the versions never fall; each response is true; the session's own entries are those before, and then the accepted commands, each once and
  -- in order; the waits are bounded; and each denial is counted.
  pub record IsTruthful (step : M → C → (M × (R × K)) ⊎ R) (opening : List M) (least : Q → ℕ) (answer : Answering M Q A) (s : SessionModel M C R H K) (requests : List (Request C Q)) (responses : List (Response R A)) (t : SessionModel M C R H K) : Type 0 where
    pub seen : IsPrefix s.seen t.seen
    pub versions : Rises (length s.seen) (flat_map versions_in responses)
    pub replies : AreTrueOf step opening least answer s.number t.seen requests responses
    pub each : AreTrueFrom step opening least answer s.number s.seen requests responses t.seen
    pub within : IsWithin t
    pub more : List (Entry M C R H K)
    pub own : own_entries t ≡ own_entries s ++ more
    pub accepted : map decision more ≡ all_accepted requests responses
    pub waits : t.waits ≤ s.waits + all_waits least (length s.seen) requests responses
    pub denied : t.denied ≡ min (s.denied + all_denials responses) (2 ^ 64 - 1)

module _ {M C R K Q A : Type 0} where
  -- the reply in a response is that of a step
  abbrev pub ReplyLaw : (H : Type 0) → (M → C → (M × (R × K)) ⊎ R) → List M → (Q → ℕ) → Answering M Q A → Type 0
  ReplyLaw H step opening least answer =
      (s t : SessionModel M C R H K) (request : Request C Q) (response : Response R A)
      → IsServed step opening least answer s request response t → IsReplyOf step request response

  -- one more request may follow
  abbrev pub MoreLaw : (H : Type 0) → (M → C → (M × (R × K)) ⊎ R) → List M → (Q → ℕ) → Answering M Q A → Type 0
  MoreLaw H step opening least answer =
      (s m t : SessionModel M C R H K) (requests : List (Request C Q)) (responses : List (Response R A)) (request : Request C Q) (response : Response R A)
      → AreServed step opening least answer s requests responses m → IsServed step opening least answer m request response t
      → AreServed step opening least answer s (requests ++ request ∷ []) (responses ++ response ∷ []) t

  -- an answer at a past version may be lost before it is told: memory may have run out just as well
  abbrev pub LostLaw : (H : Type 0) → (M → C → (M × (R × K)) ⊎ R) → List M → (Q → ℕ) → Answering M Q A → Type 0
  LostLaw H step opening least answer =
      (s t : SessionModel M C R H K) (request : Request C Q) (v : ℕ) (text : A)
      → IsServed step opening least answer s request (PastAnswer v text) t → IsServed step opening least answer s request Memory t

  -- all that is promised holds
  abbrev pub TruthLaw : (H : Type 0) → (M → C → (M × (R × K)) ⊎ R) → List M → (Q → ℕ) → Answering M Q A → Type 0
  TruthLaw H step opening least answer =
      (s t : SessionModel M C R H K) (requests : List (Request C Q)) (responses : List (Response R A))
      → IsWithin s → s.denied < 2 ^ 64 → AreServed step opening least answer s requests responses t → IsTruthful step opening least answer s requests responses t
