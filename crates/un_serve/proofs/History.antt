-- The responses of a link are determined by the accepted commands.
use Rattle.std.proofs.Common.{◌≡◌, ◌≤◌, ◌+◌, ◌-◌, ℕ, List, [], ◌∷◌, ◌++◌, length, take, drop, refl, ap, sym, ◌∙◌, subst, inl, inr, arith, length-append}
use Rattle.std.specs.Prelude.{⊤}
use Rattle.std.specs.List.{All}
use Rattle.std.proofs.lemmas.List.{take-append-le, take-append-drop, take_all, length-take-le}
use Rattle.std.proofs.lemmas.List.Elements.{All-cons}
use Rattle.un_geom.specs.Rectangle.{Rectangle}
use Rattle.un_schema.specs.Sound.{IsCatalog}
use Rattle.un_tiers.specs.declared.setup.Setup.{Setup}
use Rattle.un_machine.specs.Logs.{Reaches, Leads}
use Rattle.un_ask.specs.declared.request.Command.{Command}
use Rattle.un_ask.specs.declared.request.Request.TheVariants as request
use Rattle.un_ask.specs.declared.query.Query.{Query}
use Rattle.un_ask.specs.declared.reply.Reply.{Reply}
use Rattle.un_core.specs.State.{State, opening}
use Rattle.un_core.specs.Commands.{step, command_reply, StepLaw}
use Rattle.un_core.specs.Answers.{answer}
use Rattle.un_core.specs.HistoryAnswers.{answer_after, command_reply_after}
use Rattle.un_core.specs.Logs.{LogEntry, LogLaw, history_of}
use Rattle.un_core.specs.Requests.{FaithfulLaw}
use Rattle.un_turns.specs.declared.request.Request.{Request}
use Rattle.un_turns.specs.declared.request.Request.TheVariants as request_at
use Rattle.un_turns.specs.declared.request.Span.{Span}
use Rattle.un_turns.specs.Turns.{end_of}
use Rattle.un_turns.specs.declared.request.Response.{Response}
use Rattle.un_turns.specs.declared.request.Response.TheVariants.{Nothing, Accepted, Refused, Answer, PastAnswer, BetweenAnswer, Reversed, Ahead, NotYet, Denied, Memory}
use Rattle.un_turns.specs.Truths.{IsTrueOf, AreTrueOf}
use Rattle.un_exchange.specs.declared.asked.Asked.TheVariants as asked
use Rattle.un_exchange.specs.Pages.{PageModel}
use Rattle.un_exchange.specs.Exchanges.{request_of, requests, responses}
use Rattle.un_serve.specs.declared.asking.NetQuery.{NetQuery}
use Rattle.un_serve.specs.declared.asking.NetQuery.TheVariants.{At, Changes}
use Rattle.un_serve.specs.Printing.{reply_page, changes_page, version_of}
use Rattle.un_serve.specs.Asking.{NetAsked}
use Rattle.un_serve.specs.Serving.{NetExchange, IsOfHistory, AreOfHistory, IsAtVersion, AreAtVersions, least_of, question_of, answer_of, between_of, answers_of, between_after}
use Rattle.un_serve.proofs.Versions.{done_version, refused_version, answer_version}

none : {X : Type 0} (P : X → Type 0) → All P []
none P k d lt = absurd (omega (arith, lt))

-- the last entry of a log, and the state before it
leads_last : (o s : State) (before : List LogEntry) (e : LogEntry) → Leads step o (before ++ e ∷ []) s → (m : State) × Leads step o before m × (step m e.cmd ≡ inl (s, (e.reply, e.mark)))
leads_last o s [] e h = (o, refl, subst (λ (z : State). step o e.cmd ≡ inl (z, (e.reply, e.mark))) h.2 h.1)
leads_last o s (x ∷ xs) e h =
    let rest = leads_last h.0 s xs e h.2 in
    (rest.0, (h.0, h.1, rest.1), rest.2)

take_before : (v : ℕ) (seen before : List LogEntry) (e : LogEntry) → v ≡ length (take v seen) → take v seen ≡ before ++ e ∷ [] → take (v - 1) seen ≡ before
take_before v seen before e size last =
    let count : v ≡ length before + 1 = size ∙ ap length last ∙ length-append before (e ∷ []) in
    let one : v - 1 ≡ length before = omega (arith, count) in
    let le : v - 1 ≤ length (take v seen) = omega (arith, count, size) in
    ap (λ (l : List LogEntry). take (v - 1) l) (sym (take-append-drop v seen)) ∙ take-append-le (v - 1) (take v seen) (drop v seen) le
    ∙ ap (λ (l : List LogEntry). take (v - 1) l) last ∙ take-append-le (v - 1) before (e ∷ []) (omega (arith, one)) ∙ take_all (v - 1) before (omega (arith, one))

-- a step of an equal command with an equal reply
at_equal : (m t : State) (c c' : Command) (r r' : Reply) (mark : List Rectangle) → c ≡ c' → r' ≡ r → step m c' ≡ inl (t, (r', mark)) → step m c ≡ inl (t, (r, mark))
at_equal m t c c' r r' mark e f h =
    subst (λ (z : Command). step m z ≡ inl (t, (r, mark))) (sym e) (subst (λ (z : Reply). step m c' ≡ inl (t, (z, mark))) f h)

module _ (S : Setup) (catalog : IsCatalog S.schema) (first : List State) (is_first : first ≡ opening S ∷ []) (log_law : LogLaw) (step_law : StepLaw) (faithful : FaithfulLaw) where
  -- where a legal log leads from the opening state
  from_opening : (log : List LogEntry) (s : State) → Reaches step first log s → Leads step (opening S) log s
  from_opening log s h =
      let same : h.0 ≡ opening S = cc (h.1, is_first) in
      subst (λ (o : State). Leads step o log s) same h.2

  command_at : (log : List LogEntry) (s : State) (c : Command) → Leads step (opening S) log s → command_reply s c ≡ command_reply_after S (history_of log) c
  command_at log s c h = (faithful S (history_of log) s (log_law S log s catalog h).0).replies (request.Command c)

  query_at : (log : List LogEntry) (s : State) (q : Query) → Leads step (opening S) log s → answer s q ≡ answer_after S (history_of log) q
  query_at log s q h = (faithful S (history_of log) s (log_law S log s catalog h).0).replies (request.Query q)

  -- what two states keep by the accepted commands that lead to them
  between_at : (older newer : List LogEntry) (old new : State) (span : Span) (q : NetQuery) → Leads step (opening S) older old → Leads step (opening S) newer new
      → between_of span old new q ≡ between_after S (history_of older) (history_of newer) span q
  between_at older newer old new span (At seen query) h k = ap reply_page (query_at newer new query k)
  between_at older newer old new span (Changes q) h k =
      let before = (log_law S older old catalog h).0 in
      let after = (log_law S newer new catalog k).0 in
      (λ i. changes_page (after.setup i) span (before.is i).kept (after.is i).kept q)

  -- an answer about two versions by the accepted commands up to each
  abbrev IsOfSpan : List LogEntry → ℕ → PageModel → Request Command NetQuery → Type 0
  IsOfSpan seen v page (request_at.Between since upto q) =
      (since ≤ end_of upto v) × (end_of upto v ≤ v) × (page
      ≡ between_after S (history_of (take since seen)) (history_of (take (end_of upto v) seen)) (record { since = since; upto = end_of upto v; version = v }) q)
  IsOfSpan seen v page _ = ⊤

  of_history : (number : ℕ) (seen : List LogEntry) (a : NetAsked) (r : Response Reply PageModel) → IsTrueOf step first least_of answers_of number seen (request_of a) r → IsOfHistory S seen a r
  of_history number seen (asked.Command c) (Accepted v r) h =
      let same : c ≡ h.0 = cc h.2 in
      let last = h.5 in
      let leads = leads_last (opening S) h.1 last.before last.entry (subst (λ (l : List LogEntry). Leads step (opening S) l h.1) last.last (from_opening (take v seen) h.1 h.4)) in
      let done : step leads.0 c ≡ inl (h.1, (r, last.entry.mark)) = at_equal leads.0 h.1 c last.entry.cmd r last.entry.reply last.entry.mark (same ∙ sym last.same_cmd) last.same_reply leads.2 in
      ((step_law leads.0 c).done h.1 r last.entry.mark done).1
      ∙ command_at last.before leads.0 c leads.1
      ∙ ap (λ (l : List LogEntry). command_reply_after S (history_of l) c) (sym (take_before v seen last.before last.entry h.3 last.last))
  of_history number seen (asked.Command c) (Refused v r) h =
      let same : c ≡ h.0 = cc h.2 in
      ((step_law h.1 c).refused r (subst (λ (z : Command). step h.1 z ≡ inr r) (sym same) h.5)).1 ∙ command_at (take v seen) h.1 c (from_opening (take v seen) h.1 h.4)
  of_history number seen (asked.Query q) (Answer v page) h =
      let same : q ≡ h.0 = cc h.2 in
      h.6 ∙ ap (λ (z : NetQuery). answer_of h.1 z) (sym same) ∙ ap reply_page (query_at (take v seen) h.1 (question_of q) (from_opening (take v seen) h.1 h.5))
  of_history number seen (asked.Past at q) (PastAnswer v page) h =
      let same_at : at ≡ h.0 = cc h.3 in
      let same : q ≡ h.1 = cc h.3 in
      let leads : Leads step (opening S) (take at seen) h.2 = subst (λ (n : ℕ). Leads step (opening S) (take n seen) h.2) (sym same_at) (from_opening (take h.0 seen) h.2 h.7) in (
        subst (λ (n : ℕ). n ≤ v) (sym same_at) h.5,
        h.8 ∙ ap (λ (z : NetQuery). answer_of h.2 z) (sym same) ∙ ap reply_page (query_at (take at seen) h.2 (question_of q) leads),
      )
  of_history number seen (asked.Between since upto q) (BetweenAnswer v page) h =
      subst (λ (z : Request Command NetQuery). IsOfSpan seen v page z) (sym h.5) (
        h.6.order,
        h.6.within,
        h.9 ∙ between_at (take h.0 seen) (take (end_of h.1 v) seen) h.3 h.4 (record { since = h.0; upto = end_of h.1 v; version = v }) h.2
            (from_opening (take h.0 seen) h.3 h.7) (from_opening (take (end_of h.1 v) seen) h.4 h.8),
      )
  of_history number seen (asked.Page p) r h = tt
  of_history number seen (asked.Command c) Nothing h = tt
  of_history number seen (asked.Command c) (Answer v page) h = tt
  of_history number seen (asked.Command c) (PastAnswer v page) h = tt
  of_history number seen (asked.Command c) (BetweenAnswer v page) h = tt
  of_history number seen (asked.Command c) (Reversed v x y) h = tt
  of_history number seen (asked.Command c) (Ahead x) h = tt
  of_history number seen (asked.Command c) (NotYet x) h = tt
  of_history number seen (asked.Command c) (Denied d) h = tt
  of_history number seen (asked.Command c) Memory h = tt
  of_history number seen (asked.Query q) Nothing h = tt
  of_history number seen (asked.Query q) (Accepted v r) h = tt
  of_history number seen (asked.Query q) (Refused v r) h = tt
  of_history number seen (asked.Query q) (PastAnswer v page) h = tt
  of_history number seen (asked.Query q) (BetweenAnswer v page) h = tt
  of_history number seen (asked.Query q) (Reversed v x y) h = tt
  of_history number seen (asked.Query q) (Ahead x) h = tt
  of_history number seen (asked.Query q) (NotYet x) h = tt
  of_history number seen (asked.Query q) (Denied d) h = tt
  of_history number seen (asked.Query q) Memory h = tt
  of_history number seen (asked.Past at q) Nothing h = tt
  of_history number seen (asked.Past at q) (Accepted v r) h = tt
  of_history number seen (asked.Past at q) (Refused v r) h = tt
  of_history number seen (asked.Past at q) (Answer v page) h = tt
  of_history number seen (asked.Past at q) (BetweenAnswer v page) h = tt
  of_history number seen (asked.Past at q) (Reversed v x y) h = tt
  of_history number seen (asked.Past at q) (Ahead x) h = tt
  of_history number seen (asked.Past at q) (NotYet x) h = tt
  of_history number seen (asked.Past at q) (Denied d) h = tt
  of_history number seen (asked.Past at q) Memory h = tt
  of_history number seen (asked.Between since upto q) Nothing h = tt
  of_history number seen (asked.Between since upto q) (Accepted v r) h = tt
  of_history number seen (asked.Between since upto q) (Refused v r) h = tt
  of_history number seen (asked.Between since upto q) (Answer v page) h = tt
  of_history number seen (asked.Between since upto q) (PastAnswer v page) h = tt
  of_history number seen (asked.Between since upto q) (Reversed v x y) h = tt
  of_history number seen (asked.Between since upto q) (Ahead x) h = tt
  of_history number seen (asked.Between since upto q) (NotYet x) h = tt
  of_history number seen (asked.Between since upto q) (Denied d) h = tt
  of_history number seen (asked.Between since upto q) Memory h = tt

  pub all_of_history : (number : ℕ) (seen : List LogEntry) (xs : List NetExchange) → AreTrueOf step first least_of answers_of number seen (requests xs) (responses xs) → AreOfHistory S seen xs
  all_of_history number seen [] h = none (λ (x : NetExchange). IsOfHistory S seen x.asked x.response)
  all_of_history number seen (x ∷ xs) h =
      All-cons (λ (x : NetExchange). IsOfHistory S seen x.asked x.response) x xs (of_history number seen x.asked x.response h.0) (all_of_history number seen xs h.1)

  at_version : (number : ℕ) (seen : List LogEntry) (q : Request Command NetQuery) (r : Response Reply PageModel) → IsTrueOf step first least_of answers_of number seen q r → IsAtVersion r
  at_version number seen q (Accepted v r) h =
      let last = h.5 in
      let leads = leads_last (opening S) h.1 last.before last.entry (subst (λ (l : List LogEntry). Leads step (opening S) l h.1) last.last (from_opening (take v seen) h.1 h.4)) in
      let done : step leads.0 h.0 ≡ inl (h.1, (r, last.entry.mark)) = at_equal leads.0 h.1 h.0 last.entry.cmd r last.entry.reply last.entry.mark (sym last.same_cmd) last.same_reply leads.2 in
      let reported = done_version leads.0 h.0 h.1 r last.entry.mark done in
      let before = (log_law S last.before leads.0 catalog leads.1).1 in
      let count : v ≡ length last.before + 1 = h.3 ∙ ap length last.last ∙ length-append last.before (last.entry ∷ []) in
      omega (arith, reported, before, count)
  at_version number seen q (Refused v r) h =
      let reported = refused_version h.1 h.0 r h.5 in
      let here = (log_law S (take v seen) h.1 catalog (from_opening (take v seen) h.1 h.4)).1 in
      omega (arith, reported, here, h.3)
  at_version number seen q (Answer v page) h =
      let here = (log_law S (take v seen) h.1 catalog (from_opening (take v seen) h.1 h.5)).1 in
      let count = length-take-le v seen h.4 in
      (answer h.1 (question_of h.0), h.6, answer_version h.1 (question_of h.0) ∙ here ∙ count)
  at_version number seen q (PastAnswer v page) h =
      let here = (log_law S (take h.0 seen) h.2 catalog (from_opening (take h.0 seen) h.2 h.7)).1 in
      let within : h.0 ≤ length seen = omega (arith, h.5, h.6) in
      let count = length-take-le h.0 seen within in
      let reported : version_of (answer h.2 (question_of h.1)) ≡ h.0 = answer_version h.2 (question_of h.1) ∙ here ∙ count in
      (answer h.2 (question_of h.1), h.8, subst (λ (n : ℕ). n ≤ v) (sym reported) h.5)
  at_version number seen q Nothing h = tt
  at_version number seen q (BetweenAnswer v page) h = tt
  at_version number seen q (Reversed v x y) h = tt
  at_version number seen q (Ahead a) h = tt
  at_version number seen q (NotYet a) h = tt
  at_version number seen q (Denied d) h = tt
  at_version number seen q Memory h = tt

  pub all_at_versions : (number : ℕ) (seen : List LogEntry) (xs : List NetExchange) → AreTrueOf step first least_of answers_of number seen (requests xs) (responses xs) → AreAtVersions xs
  all_at_versions number seen [] h = none (λ (x : NetExchange). IsAtVersion x.response)
  all_at_versions number seen (x ∷ xs) h =
      All-cons (λ (x : NetExchange). IsAtVersion x.response) x xs (at_version number seen (request_of x.asked) x.response h.0) (all_at_versions number seen xs h.1)
