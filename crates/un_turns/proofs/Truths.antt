-- What the turns do and tell, said of the requests and responses.
use Rattle.un_publish.specs.Models.{SessionModel}
use Rattle.std.proofs.Common.{◌≡◌, ◌⊎◌, ◌≤◌, ◌+◌, ◌-◌, ◌^◌, ℕ, max, min, Option, None, Some, Bool, true, false, List, [], ◌∷◌, ◌++◌, length, take, refl, ap, sym, ◌∙◌, subst, inl, inr, arith}
use Rattle.std.specs.Prelude.{flat_map}
use Rattle.std.specs.Arc.{arc_value}
use Rattle.un_machine.specs.declared.Entry.{Entry}
use Rattle.un_machine.specs.Logs.{Reaches}
use Rattle.un_publish.specs.declared.session.SessionFault.{SessionFault}
use Rattle.un_publish.specs.declared.session.SessionFault.TheVariants.{Denied as Refusing, Memory as NoMemory}
use Rattle.un_journal.specs.declared.receipt.Receipt.{Receipt}
use Rattle.un_desk.specs.declared.desk.ViewFault.{ViewFault}
use Rattle.un_desk.specs.declared.desk.ViewFault.TheVariants.{Ahead as BehindView, Denied as NotTaught, Memory as NoView}
use Rattle.un_turns.specs.declared.request.Request.{Request}
use Rattle.un_turns.specs.declared.request.Request.TheVariants.{Other, Command, Query, Past, Between}
use Rattle.un_turns.specs.declared.request.Response.{Response}
use Rattle.un_turns.specs.declared.request.Response.TheVariants.{Nothing, Answer, PastAnswer, BetweenAnswer, Reversed, Ahead, NotYet, Memory}
use Rattle.un_desk.specs.declared.past.PastFault.{PastFault}
use Rattle.un_desk.specs.declared.past.PastFault.TheVariants.{Ahead as PastAhead, Denied as PastDenied, Memory as PastMemory}
use Rattle.un_turns.specs.Turns.{Turn, Passed, Decided, Undecided, Unprepared, Answered, Unanswered, Recalled, Unread, Unrecalled, Compared, Reversed as Turned, UnreadSpan, Uncompared, end_of, later_of, IsTurn, IsAnswered, IsUnanswered, IsRecalled, IsUnrecalled, IsCompared, IsReversed, IsUncompared}
use Rattle.un_publish.specs.declared.session.View.{View}
use Rattle.un_turns.proofs.Holding.{decided_here, compared_holds, uncompared_holds}
use Rattle.un_turns.specs.Conversations.{IsTrueTurn, AreTrueTurns, IsDecidedAt, Rises, versions_of, accepted_of, denials_of, denials, waits_of, waits_due, known_after, Conversed}
use Rattle.un_turns.specs.Served.{Answering, span_of, Exchange, requests_of, turns_of, responses_of, IsResponseOf, AreResponses, receipt_response, fault_response, view_response, past_response}
use Rattle.un_turns.specs.Truths.{versions_in, denials_in, known_in, waits_in, accepted_in, all_accepted, all_waits, all_denials, IsTrueOf, AreTrueOf, IsTrueAt, AreTrueFrom, IsTruthful, TruthLaw}
use Rattle.un_turns.proofs.Turning.{all_seen, versions_rise, turn_seen, turn_number, recalled_seen, compared_seen}
use Rattle.un_turns.proofs.Owning.{all_grow}
use Rattle.un_turns.proofs.Waiting.{waits_bounded}
use Rattle.un_turns.proofs.Denying.{denials_counted}
use Rattle.un_turns.proofs.Holding.{all_hold}

-- what a response says of versions, denials and what is known is what the turn does
pub record Agrees {M C R H K Q A : Type 0} (x : Exchange M C R H K Q A) : Type 0 where
  pub versions : versions_in x.response ≡ versions_of x.turn
  pub denials : denials_in x.response ≡ denials_of x.turn
  pub known : (known : ℕ) → known_in known x.response ≡ known_after known x.turn
  pub accepted : accepted_in x.request x.response ≡ accepted_of x.turn
  pub waits : (least : Q → ℕ) (known : ℕ) → waits_of least known x.turn ≤ waits_in least known x.request

module _ {M C R H K Q A : Type 0} where
  abbrev exchange : Request C Q → Turn M C R H K Q → Response R A → Exchange M C R H K Q A
  exchange request turn response = record { request = request; turn = turn; response = response }

  -- a decided command, by whether it was accepted
  decided_agrees : (cmd : C) (r : Receipt M C R H K) (b : Bool) → r.accepted ≡ b → Agrees (exchange (Command cmd) (Decided cmd r) (receipt_response r))
  decided_agrees cmd r true e = rw e (record { versions = refl; denials = refl; known = λ k. refl; accepted = refl; waits = λ l k. omega arith })
  decided_agrees cmd r false e = rw e (record { versions = refl; denials = refl; known = λ k. refl; accepted = refl; waits = λ l k. omega arith })

  undecided_agrees : (cmd : C) (f : SessionFault) → Agrees (exchange (Command cmd) (Undecided cmd f) (fault_response f))
  undecided_agrees cmd (Refusing d) = record { versions = refl; denials = refl; known = λ k. refl; accepted = refl; waits = λ l k. omega arith }
  undecided_agrees cmd NoMemory = record { versions = refl; denials = refl; known = λ k. refl; accepted = refl; waits = λ l k. omega arith }

  unprepared_agrees : (cmd : C) (f : SessionFault) → Agrees (exchange (Command cmd) (Unprepared cmd f) (fault_response f))
  unprepared_agrees cmd (Refusing d) = record { versions = refl; denials = refl; known = λ k. refl; accepted = refl; waits = λ l k. omega arith }
  unprepared_agrees cmd NoMemory = record { versions = refl; denials = refl; known = λ k. refl; accepted = refl; waits = λ l k. omega arith }

  unanswered_agrees : (query : Q) (f : ViewFault) → Agrees (exchange (Query query) (Unanswered query f) (view_response f))
  unanswered_agrees query (BehindView a) = record { versions = refl; denials = refl; known = λ k. refl; accepted = refl; waits = λ l k. omega arith }
  unanswered_agrees query (NotTaught d) = record { versions = refl; denials = refl; known = λ k. refl; accepted = refl; waits = λ l k. omega arith }
  unanswered_agrees query NoView = record { versions = refl; denials = refl; known = λ k. refl; accepted = refl; waits = λ l k. omega arith }

  unread_agrees : (query : Q) (at : ℕ) (f : ViewFault) → Agrees (exchange (Past at query) (Unread query at f) (view_response f))
  unread_agrees query at (BehindView a) = record { versions = refl; denials = refl; known = λ k. refl; accepted = refl; waits = λ l k. omega arith }
  unread_agrees query at (NotTaught d) = record { versions = refl; denials = refl; known = λ k. refl; accepted = refl; waits = λ l k. omega arith }
  unread_agrees query at NoView = record { versions = refl; denials = refl; known = λ k. refl; accepted = refl; waits = λ l k. omega arith }

  unrecalled_agrees : (query : Q) (at : ℕ) (f : PastFault) → Agrees (exchange (Past at query) (Unrecalled query at f) (past_response f))
  unrecalled_agrees query at (PastAhead a) = record { versions = refl; denials = refl; known = λ k. refl; accepted = refl; waits = λ l k. omega arith }
  unrecalled_agrees query at (PastDenied d) = record { versions = refl; denials = refl; known = λ k. refl; accepted = refl; waits = λ l k. omega arith }
  unrecalled_agrees query at PastMemory = record { versions = refl; denials = refl; known = λ k. refl; accepted = refl; waits = λ l k. omega arith }

  unread_span_agrees : (query : Q) (since : ℕ) (upto : Option ℕ) (f : ViewFault) → Agrees (exchange (Between since upto query) (UnreadSpan query since upto f) (view_response f))
  unread_span_agrees query since upto (BehindView a) = record { versions = refl; denials = refl; known = λ k. refl; accepted = refl; waits = λ l k. omega arith }
  unread_span_agrees query since upto (NotTaught d) = record { versions = refl; denials = refl; known = λ k. refl; accepted = refl; waits = λ l k. omega arith }
  unread_span_agrees query since upto NoView = record { versions = refl; denials = refl; known = λ k. refl; accepted = refl; waits = λ l k. omega arith }

  uncompared_agrees : (query : Q) (since : ℕ) (upto : Option ℕ) (at : ℕ) (f : PastFault) → Agrees (exchange (Between since upto query) (Uncompared query since upto at f) (past_response f))
  uncompared_agrees query since upto at (PastAhead a) = record { versions = refl; denials = refl; known = λ k. refl; accepted = refl; waits = λ l k. omega arith }
  uncompared_agrees query since upto at (PastDenied d) = record { versions = refl; denials = refl; known = λ k. refl; accepted = refl; waits = λ l k. omega arith }
  uncompared_agrees query since upto at PastMemory = record { versions = refl; denials = refl; known = λ k. refl; accepted = refl; waits = λ l k. omega arith }

  memory_agrees : (request : Request C Q) → Agrees (exchange request Passed Memory)
  memory_agrees Other = record { versions = refl; denials = refl; known = λ k. refl; accepted = refl; waits = λ l k. omega arith }
  memory_agrees (Command cmd) = record { versions = refl; denials = refl; known = λ k. refl; accepted = refl; waits = λ l k. omega arith }
  memory_agrees (Query query) = record { versions = refl; denials = refl; known = λ k. refl; accepted = refl; waits = λ l k. omega arith }
  memory_agrees (Past at query) = record { versions = refl; denials = refl; known = λ k. refl; accepted = refl; waits = λ l k. omega arith }
  memory_agrees (Between since upto query) = record { versions = refl; denials = refl; known = λ k. refl; accepted = refl; waits = λ l k. omega arith }

  -- an exchange at an equal request and an equal response
  same_exchange : (P : Exchange M C R H K Q A → Type 0) (q q' : Request C Q) (u : Turn M C R H K Q) (r r' : Response R A) → q ≡ q' → r ≡ r' → P (exchange q' u r') → P (exchange q u r)
  same_exchange P q q' u r r' e d p = subst (λ (z : Request C Q). P (exchange z u r)) (sym e) (subst (λ (z : Response R A). P (exchange q' u z)) (sym d) p)

  agrees : (answer : Answering M Q A) (q : Request C Q) (u : Turn M C R H K Q) (r : Response R A) → IsResponseOf answer q u r → Agrees (exchange q u r)
  agrees answer q Passed r (inl h) = same_exchange (λ x. Agrees x) q Other Passed r Nothing h.0 h.1 (record { versions = refl; denials = refl; known = λ k. refl; accepted = refl; waits = λ l k. omega arith })
  agrees answer q Passed r (inr h) = same_exchange (λ x. Agrees x) q q Passed r Memory refl h (memory_agrees q)
  agrees answer q (Decided cmd d) r h = same_exchange (λ x. Agrees x) q (Command cmd) (Decided cmd d) r (receipt_response d) h.0 h.1 (decided_agrees cmd d d.accepted refl)
  agrees answer q (Undecided cmd f) r h = same_exchange (λ x. Agrees x) q (Command cmd) (Undecided cmd f) r (fault_response f) h.0 h.1 (undecided_agrees cmd f)
  agrees answer q (Unprepared cmd f) r h = same_exchange (λ x. Agrees x) q (Command cmd) (Unprepared cmd f) r (fault_response f) h.0 h.1 (unprepared_agrees cmd f)
  agrees answer q (Answered query v) r h = same_exchange (λ x. Agrees x) q (Query query) (Answered query v) r (Answer v.version (answer.at (arc_value v.state) query)) h.0 h.1 (record { versions = refl; denials = refl; known = λ k. refl; accepted = refl; waits = λ l k. omega arith })
  agrees answer q (Unanswered query f) r h = same_exchange (λ x. Agrees x) q (Query query) (Unanswered query f) r (view_response f) h.0 h.1 (unanswered_agrees query f)
  agrees answer q (Recalled query at v w) r h = same_exchange (λ x. Agrees x) q (Past at query) (Recalled query at v w) r (PastAnswer (max v.version at) (answer.at (arc_value w.state) query)) h.0 h.1 (record { versions = refl; denials = refl; known = λ k. refl; accepted = refl; waits = λ l k. omega arith })
  agrees answer q (Unread query at f) r h = same_exchange (λ x. Agrees x) q (Past at query) (Unread query at f) r (view_response f) h.0 h.1 (unread_agrees query at f)
  agrees answer q (Unrecalled query at f) r h = same_exchange (λ x. Agrees x) q (Past at query) (Unrecalled query at f) r (past_response f) h.0 h.1 (unrecalled_agrees query at f)
  agrees answer q (Compared query since upto v old new) r h = same_exchange (λ x. Agrees x) q (Between since upto query) (Compared query since upto v old new) r (BetweenAnswer (later_of upto v.version) (answer.between (span_of since upto v.version) (arc_value old.state) (arc_value new.state) query)) h.0 h.1 (record { versions = refl; denials = refl; known = λ k. refl; accepted = refl; waits = λ l k. omega arith })
  agrees answer q (Turned query since upto v old) r h = same_exchange (λ x. Agrees x) q (Between since upto query) (Turned query since upto v old) r (Reversed v.version since (end_of upto v.version)) h.0 h.1 (record { versions = refl; denials = refl; known = λ k. refl; accepted = refl; waits = λ l k. omega arith })
  agrees answer q (UnreadSpan query since upto f) r h = same_exchange (λ x. Agrees x) q (Between since upto query) (UnreadSpan query since upto f) r (view_response f) h.0 h.1 (unread_span_agrees query since upto f)
  agrees answer q (Uncompared query since upto at f) r h = same_exchange (λ x. Agrees x) q (Between since upto query) (Uncompared query since upto at f) r (past_response f) h.0 h.1 (uncompared_agrees query since upto at f)

  -- the same over all exchanges
  all_versions : (answer : Answering M Q A) (xs : List (Exchange M C R H K Q A)) → AreResponses answer xs → flat_map versions_in (responses_of xs) ≡ flat_map versions_of (turns_of xs)
  all_versions answer [] h = refl
  all_versions answer (x ∷ xs) h =
      let one = agrees answer x.request x.turn x.response h.0 in
      ap (λ (l : List ℕ). l ++ flat_map versions_in (responses_of xs)) one.versions ∙ ap (λ (l : List ℕ). versions_of x.turn ++ l) (all_versions answer xs h.1)

  accepted_all : (answer : Answering M Q A) (xs : List (Exchange M C R H K Q A)) → AreResponses answer xs → flat_map accepted_of (turns_of xs) ≡ all_accepted (requests_of xs) (responses_of xs)
  accepted_all answer [] h = refl
  accepted_all answer (x ∷ xs) h =
      let one = agrees answer x.request x.turn x.response h.0 in
      ap (λ (l : List (C × R)). l ++ flat_map accepted_of (turns_of xs)) (sym one.accepted) ∙ ap (λ (l : List (C × R)). accepted_in x.request x.response ++ l) (accepted_all answer xs h.1)

  denials_all : (answer : Answering M Q A) (xs : List (Exchange M C R H K Q A)) → AreResponses answer xs → denials (turns_of xs) ≡ all_denials (responses_of xs)
  denials_all answer [] h = refl
  denials_all answer (x ∷ xs) h =
      let one = agrees answer x.request x.turn x.response h.0 in
      omega (arith, one.denials, denials_all answer xs h.1)

  waits_all : (answer : Answering M Q A) (least : Q → ℕ) (known : ℕ) (xs : List (Exchange M C R H K Q A)) → AreResponses answer xs → waits_due least known (turns_of xs) ≤ all_waits least known (requests_of xs) (responses_of xs)
  waits_all answer least known [] h = omega arith
  waits_all answer least known (x ∷ xs) h =
      let one = agrees answer x.request x.turn x.response h.0 in
      let rest : waits_due least (known_after known x.turn) (turns_of xs) ≤ all_waits least (known_in known x.response) (requests_of xs) (responses_of xs) =
      subst (λ (k : ℕ). waits_due least (known_after known x.turn) (turns_of xs) ≤ all_waits least k (requests_of xs) (responses_of xs)) (sym (one.known known)) (waits_all answer least (known_after known x.turn) xs h.1) in
      omega (arith, one.waits least known, rest)

-- the second version is the same by the version that is reported
same_end : (upto : Option ℕ) (v : ℕ) → end_of upto (later_of upto v) ≡ end_of upto v
same_end None v = omega arith
same_end (Some u) v = refl

later_le : (upto : Option ℕ) (v n : ℕ) → v ≤ n → end_of upto v ≤ n → later_of upto v ≤ n
later_le upto v n a b = omega (arith, a, b)

module _ {M C R H K Q A : Type 0} (step : M → C → (M × (R × K)) ⊎ R) (opening : List M) (least : Q → ℕ) (answer : Answering M Q A) (number : ℕ) (seen : List (Entry M C R H K)) where
  decided_true : (cmd : C) (r : Receipt M C R H K) → IsDecidedAt step opening number (take r.version seen) cmd r → IsTrueOf step opening least answer number seen (Command cmd) (receipt_response r)
  decided_true cmd r h =
      elim h.decided as (λ _. IsTrueOf step opening least answer number seen (Command cmd) (receipt_response r)) [
        | inl d ↦ rw d.0 (cmd, arc_value r.view.state, refl, h.version, h.reaches, d.1)
        | inr d ↦ rw d.0 (cmd, arc_value r.view.state, refl, h.version, h.reaches, d.1)
      ]

  undecided_true : (cmd : C) (f : SessionFault) → IsTrueOf step opening least answer number seen (Command cmd) (fault_response f)
  undecided_true cmd (Refusing d) = tt
  undecided_true cmd NoMemory = tt

  compared_true : (query : Q) (since : ℕ) (upto : Option ℕ) (v : ℕ) (old new : M)
      → (least query ≤ v) × (v ≤ length seen) × (since ≤ end_of upto v) × (end_of upto v ≤ length seen) × Reaches step opening (take since seen) old × Reaches step opening (take (end_of upto v) seen) new
      → IsTrueOf step opening least answer number seen (Between since upto query) (BetweenAnswer (later_of upto v) (answer.between (span_of since upto v) old new query))
  compared_true query since upto v old new t =
      let e = same_end upto v in (
        since,
        upto,
        query,
        old,
        new,
        refl,
        record { asked = omega (arith, t.0); order = rw e t.2; within = rw e (omega arith); known = later_le upto v (length seen) t.1 t.3 },
        t.4,
        rw e t.5,
        ap (λ (u : ℕ). answer.between (record { since = since; upto = u; version = later_of upto v }) old new query) (sym e),
      )

  true_of : (q : Request C Q) (u : Turn M C R H K Q) (r : Response R A) → IsResponseOf answer q u r → IsTrueTurn step opening least number seen u → IsTrueOf step opening least answer number seen q r
  true_of q Passed r (inl h) t = subst (λ (z : Response R A). IsTrueOf step opening least answer number seen q z) (sym h.1) h.0
  true_of q Passed r (inr h) t = subst (λ (z : Response R A). IsTrueOf step opening least answer number seen q z) (sym h) tt
  true_of q (Decided cmd d) r h t =
      same_exchange (λ (x : Exchange M C R H K Q A). IsTrueOf step opening least answer number seen x.request x.response) q (Command cmd) (Decided cmd d) r (receipt_response d) h.0 h.1 (decided_true cmd d t)
  true_of q (Undecided cmd f) r h t =
      same_exchange (λ (x : Exchange M C R H K Q A). IsTrueOf step opening least answer number seen x.request x.response) q (Command cmd) (Undecided cmd f) r (fault_response f) h.0 h.1 (undecided_true cmd f)
  true_of q (Unprepared cmd f) r h t =
      same_exchange (λ (x : Exchange M C R H K Q A). IsTrueOf step opening least answer number seen x.request x.response) q (Command cmd) (Unprepared cmd f) r (fault_response f) h.0 h.1 (undecided_true cmd f)
  true_of q (Answered query v) r h t =
      same_exchange (λ (x : Exchange M C R H K Q A). IsTrueOf step opening least answer number seen x.request x.response) q (Query query) (Answered query v) r (Answer v.version (answer.at (arc_value v.state) query)) h.0 h.1
      (query, arc_value v.state, refl, t.0, t.1, t.2, refl)
  true_of q (Unanswered query (BehindView a)) r h t =
      same_exchange (λ (x : Exchange M C R H K Q A). IsTrueOf step opening least answer number seen x.request x.response) q (Query query) (Unanswered query (BehindView a)) r (Ahead a) h.0 h.1 (query, inl refl, t.0, t.1, t.2)
  true_of q (Unanswered query (NotTaught d)) r h t = subst (λ (z : Response R A). IsTrueOf step opening least answer number seen q z) (sym h.1) tt
  true_of q (Unanswered query NoView) r h t = subst (λ (z : Response R A). IsTrueOf step opening least answer number seen q z) (sym h.1) tt
  true_of q (Recalled query at v w) r h t =
      same_exchange (λ (x : Exchange M C R H K Q A). IsTrueOf step opening least answer number seen x.request x.response) q (Past at query) (Recalled query at v w) r (PastAnswer (max v.version at) (answer.at (arc_value w.state) query)) h.0 h.1
      (at, query, arc_value w.state, refl, omega (arith, t.0), omega arith, omega (arith, t.1, t.3), t.4, refl)
  true_of q (Unread query at (BehindView a)) r h t =
      same_exchange (λ (x : Exchange M C R H K Q A). IsTrueOf step opening least answer number seen x.request x.response) q (Past at query) (Unread query at (BehindView a)) r (Ahead a) h.0 h.1 (query, inr (inl (at, refl)), t.0, t.1, t.2)
  true_of q (Unread query at (NotTaught d)) r h t = subst (λ (z : Response R A). IsTrueOf step opening least answer number seen q z) (sym h.1) tt
  true_of q (Unread query at NoView) r h t = subst (λ (z : Response R A). IsTrueOf step opening least answer number seen q z) (sym h.1) tt
  true_of q (Unrecalled query at (PastAhead a)) r h t =
      same_exchange (λ (x : Exchange M C R H K Q A). IsTrueOf step opening least answer number seen x.request x.response) q (Past at query) (Unrecalled query at (PastAhead a)) r (NotYet a) h.0 h.1 (at, inl (query, refl), t.0, t.1, t.2)
  true_of q (Unrecalled query at (PastDenied d)) r h t = subst (λ (z : Response R A). IsTrueOf step opening least answer number seen q z) (sym h.1) tt
  true_of q (Unrecalled query at PastMemory) r h t = subst (λ (z : Response R A). IsTrueOf step opening least answer number seen q z) (sym h.1) tt
  true_of q (Compared query since upto v old new) r h t =
      same_exchange (λ (x : Exchange M C R H K Q A). IsTrueOf step opening least answer number seen x.request x.response) q (Between since upto query) (Compared query since upto v old new) r (BetweenAnswer (later_of upto v.version) (answer.between (span_of since upto v.version) (arc_value old.state) (arc_value new.state) query)) h.0 h.1
      (compared_true query since upto v.version (arc_value old.state) (arc_value new.state) t)
  true_of q (Turned query since upto v old) r h t =
      same_exchange (λ (x : Exchange M C R H K Q A). IsTrueOf step opening least answer number seen x.request x.response) q (Between since upto query) (Turned query since upto v old) r (Reversed v.version since (end_of upto v.version)) h.0 h.1 (upto, query, refl, refl, t.2, t.0, t.1)
  true_of q (UnreadSpan query since upto (BehindView a)) r h t =
      same_exchange (λ (x : Exchange M C R H K Q A). IsTrueOf step opening least answer number seen x.request x.response) q (Between since upto query) (UnreadSpan query since upto (BehindView a)) r (Ahead a) h.0 h.1 (query, inr (inr (since, upto, refl)), t.0, t.1, t.2)
  true_of q (UnreadSpan query since upto (NotTaught d)) r h t = subst (λ (z : Response R A). IsTrueOf step opening least answer number seen q z) (sym h.1) tt
  true_of q (UnreadSpan query since upto NoView) r h t = subst (λ (z : Response R A). IsTrueOf step opening least answer number seen q z) (sym h.1) tt
  true_of q (Uncompared query since upto at (PastAhead a)) r h t =
      same_exchange (λ (x : Exchange M C R H K Q A). IsTrueOf step opening least answer number seen x.request x.response) q (Between since upto query) (Uncompared query since upto at (PastAhead a)) r (NotYet a) h.0 h.1 (at, inr (since, upto, query, refl, t.0), t.1, t.2, t.3)
  true_of q (Uncompared query since upto at (PastDenied d)) r h t = subst (λ (z : Response R A). IsTrueOf step opening least answer number seen q z) (sym h.1) tt
  true_of q (Uncompared query since upto at PastMemory) r h t = subst (λ (z : Response R A). IsTrueOf step opening least answer number seen q z) (sym h.1) tt

  true_all : (xs : List (Exchange M C R H K Q A)) → AreResponses answer xs → AreTrueTurns step opening least number seen (turns_of xs) → AreTrueOf step opening least answer number seen (requests_of xs) (responses_of xs)
  true_all [] h t = tt
  true_all (x ∷ xs) h t = (true_of x.request x.turn x.response h.0 t.0, true_all xs h.1 t.1)

module _ {M C R H K Q A : Type 0} (step : M → C → (M × (R × K)) ⊎ R) (opening : List M) (least : Q → ℕ) (answer : Answering M Q A) where
  decided_at : (number : ℕ) (seen : List (Entry M C R H K)) (cmd : C) (r : Receipt M C R H K) → IsDecidedAt step opening number seen cmd r → IsTrueAt step opening least answer number seen (Command cmd) (receipt_response r)
  decided_at number seen cmd r h =
      elim h.decided as (λ _. IsTrueAt step opening least answer number seen (Command cmd) (receipt_response r)) [
        | inl d ↦ rw d.0 (cmd, arc_value r.view.state, refl, h.version, h.reaches, d.1)
        | inr d ↦ rw d.0 (cmd, arc_value r.view.state, refl, h.version, h.reaches, d.1)
      ]

  undecided_at : (number : ℕ) (seen : List (Entry M C R H K)) (cmd : C) (f : SessionFault) → IsTrueAt step opening least answer number seen (Command cmd) (fault_response f)
  undecided_at number seen cmd (Refusing d) = tt
  undecided_at number seen cmd NoMemory = tt

  answered_at : (s t : SessionModel M C R H K) (query : Q) (v : View M) → IsAnswered step opening s t (least query) v → IsTrueAt step opening least answer s.number t.seen (Query query) (Answer v.version (answer.at (arc_value v.state) query))
  answered_at s t query v h =
      elim h.1 as (λ _. IsTrueAt step opening least answer s.number t.seen (Query query) (Answer v.version (answer.at (arc_value v.state) query))) [
        | inl r ↦ (query, arc_value v.state, refl, h.0, r.version, r.reaches, refl)
        | inr w ↦ (query, arc_value v.state, refl, h.0, w.2.version, w.2.reaches, refl)
      ]

  unanswered_at : (s t : SessionModel M C R H K) (query : Q) (f : ViewFault) → IsUnanswered step opening s t (least query) f → IsTrueAt step opening least answer s.number t.seen (Query query) (view_response f)
  unanswered_at s t query (NotTaught d) h = tt
  unanswered_at s t query NoView h = tt
  unanswered_at s t query (BehindView a) (inl (Refusing d, e, r, p)) = absurd (cc e)
  unanswered_at s t query (BehindView a) (inl (NoMemory, e, r, p)) = absurd (cc e)
  unanswered_at s t query (BehindView a) (inr (m, o, v, p)) = (query, inl refl, v.0.0, v.0.1, v.0.2)

  unread_at : (s t : SessionModel M C R H K) (query : Q) (at : ℕ) (f : ViewFault) → IsUnanswered step opening s t (least query) f → IsTrueAt step opening least answer s.number t.seen (Past at query) (view_response f)
  unread_at s t query at (NotTaught d) h = tt
  unread_at s t query at NoView h = tt
  unread_at s t query at (BehindView a) (inl (Refusing d, e, r, p)) = absurd (cc e)
  unread_at s t query at (BehindView a) (inl (NoMemory, e, r, p)) = absurd (cc e)
  unread_at s t query at (BehindView a) (inr (m, o, v, p)) = (query, inr (inl (at, refl)), v.0.0, v.0.1, v.0.2)

  recalled_at : (s t : SessionModel M C R H K) (query : Q) (at : ℕ) (v w : View M) → IsRecalled step opening s t (least query) at v w
      → IsTrueAt step opening least answer s.number t.seen (Past at query) (PastAnswer (max v.version at) (answer.at (arc_value w.state) query))
  recalled_at s t query at v w h =
      let r = recalled_seen step opening s t (least query) at v w h in
      (at, query, arc_value w.state, refl, omega (arith, h.first.0), omega arith, omega (arith, r.1, r.2), h.past.after.1, refl)

  unrecalled_at : (s t : SessionModel M C R H K) (query : Q) (at : ℕ) (f : PastFault) → IsUnrecalled step opening s t (least query) at f → IsTrueAt step opening least answer s.number t.seen (Past at query) (past_response f)
  unrecalled_at s t query at (PastAhead a) h = let v = h.fault in (at, inl (query, refl), v.0.0, v.0.1, v.0.2)
  unrecalled_at s t query at (PastDenied d) h = tt
  unrecalled_at s t query at PastMemory h = tt

  unread_span_at : (s t : SessionModel M C R H K) (query : Q) (since : ℕ) (upto : Option ℕ) (f : ViewFault) → IsUnanswered step opening s t (least query) f
      → IsTrueAt step opening least answer s.number t.seen (Between since upto query) (view_response f)
  unread_span_at s t query since upto (NotTaught d) h = tt
  unread_span_at s t query since upto NoView h = tt
  unread_span_at s t query since upto (BehindView a) (inl (Refusing d, e, r, p)) = absurd (cc e)
  unread_span_at s t query since upto (BehindView a) (inl (NoMemory, e, r, p)) = absurd (cc e)
  unread_span_at s t query since upto (BehindView a) (inr (m, o, v, p)) = (query, inr (inr (since, upto, refl)), v.0.0, v.0.1, v.0.2)

  compared_at : (s t : SessionModel M C R H K) (query : Q) (since : ℕ) (upto : Option ℕ) (v old new : View M) → IsCompared step opening s t (least query) since upto v old new
      → IsTrueAt step opening least answer s.number t.seen (Between since upto query) (BetweenAnswer (later_of upto v.version) (answer.between (span_of since upto v.version) (arc_value old.state) (arc_value new.state) query))
  compared_at s t query since upto v old new h =
      let r = compared_seen step opening s t (least query) since upto v old new h in
      compared_true step opening least answer s.number t.seen query since upto v.version (arc_value old.state) (arc_value new.state)
      (h.older.first.0, r.1, h.order, r.3, compared_holds step opening s t (least query) since upto v old new h, h.newer.after.1)

  reversed_at : (s t : SessionModel M C R H K) (query : Q) (since : ℕ) (upto : Option ℕ) (v old : View M) → IsReversed step opening s t (least query) since upto v old
      → IsTrueAt step opening least answer s.number t.seen (Between since upto query) (Reversed v.version since (end_of upto v.version))
  reversed_at s t query since upto v old h =
      let r = recalled_seen step opening s t (least query) since v old h.older in
      (upto, query, refl, refl, h.order, h.older.first.0, r.1)

  uncompared_at : (s t : SessionModel M C R H K) (query : Q) (since : ℕ) (upto : Option ℕ) (at : ℕ) (f : PastFault) → IsUncompared step opening s t (least query) since upto at f
      → IsTrueAt step opening least answer s.number t.seen (Between since upto query) (past_response f)
  uncompared_at s t query since upto at (PastDenied d) h = tt
  uncompared_at s t query since upto at PastMemory h = tt
  uncompared_at s t query since upto at (PastAhead a) (inl h) = let v = h.1.fault in (since, inr (since, upto, query, refl, inl refl), v.0.0, v.0.1, v.0.2)
  uncompared_at s t query since upto at (PastAhead a) (inr h) =
      let holds = uncompared_holds step opening s t (least query) since upto at (PastAhead a) (inr h) in
      let v = h.fault in
      (at, inr (since, upto, query, refl, holds.0), v.0.0, v.0.1, v.0.2)

  true_at : (s t : SessionModel M C R H K) (q : Request C Q) (u : Turn M C R H K Q) (r : Response R A) → IsResponseOf answer q u r → IsTurn step opening least s u t → IsTrueAt step opening least answer s.number t.seen q r
  true_at s t q Passed r (inl h) i = subst (λ (z : Response R A). IsTrueAt step opening least answer s.number t.seen q z) (sym h.1) h.0
  true_at s t q Passed r (inr h) i = subst (λ (z : Response R A). IsTrueAt step opening least answer s.number t.seen q z) (sym h) tt
  true_at s t q (Decided cmd d) r h i =
      same_exchange (λ (x : Exchange M C R H K Q A). IsTrueAt step opening least answer s.number t.seen x.request x.response) q (Command cmd) (Decided cmd d) r (receipt_response d) h.0 h.1 (decided_at s.number t.seen cmd d (decided_here step opening s t cmd d i))
  true_at s t q (Undecided cmd f) r h i =
      same_exchange (λ (x : Exchange M C R H K Q A). IsTrueAt step opening least answer s.number t.seen x.request x.response) q (Command cmd) (Undecided cmd f) r (fault_response f) h.0 h.1 (undecided_at s.number t.seen cmd f)
  true_at s t q (Unprepared cmd f) r h i =
      same_exchange (λ (x : Exchange M C R H K Q A). IsTrueAt step opening least answer s.number t.seen x.request x.response) q (Command cmd) (Unprepared cmd f) r (fault_response f) h.0 h.1 (undecided_at s.number t.seen cmd f)
  true_at s t q (Answered query v) r h i =
      same_exchange (λ (x : Exchange M C R H K Q A). IsTrueAt step opening least answer s.number t.seen x.request x.response) q (Query query) (Answered query v) r (Answer v.version (answer.at (arc_value v.state) query)) h.0 h.1 (answered_at s t query v i)
  true_at s t q (Unanswered query f) r h i =
      same_exchange (λ (x : Exchange M C R H K Q A). IsTrueAt step opening least answer s.number t.seen x.request x.response) q (Query query) (Unanswered query f) r (view_response f) h.0 h.1 (unanswered_at s t query f i)
  true_at s t q (Recalled query at v w) r h i =
      same_exchange (λ (x : Exchange M C R H K Q A). IsTrueAt step opening least answer s.number t.seen x.request x.response) q (Past at query) (Recalled query at v w) r (PastAnswer (max v.version at) (answer.at (arc_value w.state) query)) h.0 h.1 (recalled_at s t query at v w i)
  true_at s t q (Unread query at f) r h i =
      same_exchange (λ (x : Exchange M C R H K Q A). IsTrueAt step opening least answer s.number t.seen x.request x.response) q (Past at query) (Unread query at f) r (view_response f) h.0 h.1 (unread_at s t query at f i)
  true_at s t q (Unrecalled query at f) r h i =
      same_exchange (λ (x : Exchange M C R H K Q A). IsTrueAt step opening least answer s.number t.seen x.request x.response) q (Past at query) (Unrecalled query at f) r (past_response f) h.0 h.1 (unrecalled_at s t query at f i)
  true_at s t q (Compared query since upto v old new) r h i =
      same_exchange (λ (x : Exchange M C R H K Q A). IsTrueAt step opening least answer s.number t.seen x.request x.response) q (Between since upto query) (Compared query since upto v old new) r (BetweenAnswer (later_of upto v.version) (answer.between (span_of since upto v.version) (arc_value old.state) (arc_value new.state) query)) h.0 h.1 (compared_at s t query since upto v old new i)
  true_at s t q (Turned query since upto v old) r h i =
      same_exchange (λ (x : Exchange M C R H K Q A). IsTrueAt step opening least answer s.number t.seen x.request x.response) q (Between since upto query) (Turned query since upto v old) r (Reversed v.version since (end_of upto v.version)) h.0 h.1 (reversed_at s t query since upto v old i)
  true_at s t q (UnreadSpan query since upto f) r h i =
      same_exchange (λ (x : Exchange M C R H K Q A). IsTrueAt step opening least answer s.number t.seen x.request x.response) q (Between since upto query) (UnreadSpan query since upto f) r (view_response f) h.0 h.1 (unread_span_at s t query since upto f i)
  true_at s t q (Uncompared query since upto at f) r h i =
      same_exchange (λ (x : Exchange M C R H K Q A). IsTrueAt step opening least answer s.number t.seen x.request x.response) q (Between since upto query) (Uncompared query since upto at f) r (past_response f) h.0 h.1 (uncompared_at s t query since upto at f i)

  true_from : (number : ℕ) (s t : SessionModel M C R H K) (xs : List (Exchange M C R H K Q A)) → s.number ≡ number → AreResponses answer xs → Conversed step opening least s (turns_of xs) t
      → AreTrueFrom step opening least answer number s.seen (requests_of xs) (responses_of xs) t.seen
  true_from number s t [] e a h = ap (λ (x : SessionModel M C R H K). x.seen) h
  true_from number s t (x ∷ xs) e a h = (
    h.0.seen,
    turn_seen step opening least s h.0 x.turn h.1,
    subst (λ (n : ℕ). IsTrueAt step opening least answer n h.0.seen x.request x.response) e (true_at s h.0 x.request x.turn x.response a.0 h.1),
    true_from number h.0 t xs (turn_number step opening least s h.0 x.turn h.1 ∙ e) a.1 h.2,
  )

module _ {M C R H K Q A : Type 0} (step : M → C → (M × (R × K)) ⊎ R) (opening : List M) (least : Q → ℕ) (answer : Answering M Q A) where
  pub truthful : TruthLaw H step opening least answer
  truthful s t requests responses w lt h =
      let xs = h.exchanges in
      let grown = all_grow step opening least s t (turns_of xs) w h.conversed in
      let waited = waits_bounded step opening least s t (turns_of xs) h.conversed in
      let here : IsTruthful step opening least answer s (requests_of xs) (responses_of xs) t = record {
        seen = all_seen step opening least s t (turns_of xs) h.conversed;
        versions = subst (λ (l : List ℕ). Rises (length s.seen) l) (sym (all_versions answer xs h.responds)) (versions_rise step opening least s t (turns_of xs) h.conversed);
        replies = true_all step opening least answer s.number t.seen xs h.responds (all_hold step opening least s t (turns_of xs) h.conversed);
        each = true_from step opening least answer s.number s t xs refl h.responds h.conversed;
        within = grown.within;
        more = grown.more;
        own = grown.own;
        accepted = grown.are ∙ accepted_all answer xs h.responds;
        waits = omega (arith, waited, waits_all answer least (length s.seen) xs h.responds);
        denied = denials_counted step opening least s t (turns_of xs) lt h.conversed ∙ ap (λ (k : ℕ). min (s.denied + k) (2 ^ 64 - 1)) (denials_all answer xs h.responds);
      } in
      subst (λ (l : List (Request C Q)). IsTruthful step opening least answer s l responses t) h.asked
      (subst (λ (l : List (Response R A)). IsTruthful step opening least answer s (requests_of xs) l t) h.answered here)
