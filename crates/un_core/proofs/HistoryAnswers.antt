-- What is answered by the schema, the tiers and the accepted commands alone.
use Rattle.std.proofs.Common.{◌≡◌, ◌+◌, Bool, true, false, List, length, refl, sym, ap, ◌∙◌}
use Rattle.std.specs.Option.{option_map_or}
use Rattle.un_defs.specs.Star.{standing_points}
use Rattle.un_defs.specs.Ground.{fresh_ground}
use Rattle.un_ask.specs.declared.typed.TypedAsk.{TypedAsk}
use Rattle.un_ask.specs.declared.request.Command.{Command}
use Rattle.un_ask.specs.declared.request.Command.TheVariants as command
use Rattle.un_ask.specs.declared.query.Asked.{Asked}
use Rattle.un_ask.specs.declared.query.Asked.TheVariants.{Version, Dirty, Errors, Trace, Path, Check, Diagram}
use Rattle.un_ask.specs.declared.reply.Reply.TheVariants as reply
use Rattle.un_tiers.specs.declared.setup.Setup.{Setup}
use Rattle.un_resolve.specs.Resolved.{resolved, resolving_refusal}
use Rattle.un_resolve.specs.Walks.{path_asked, check_asked, diagram_asked}
use Rattle.un_core.specs.State.{State}
use Rattle.un_core.specs.Validation.{met, IsKept}
use Rattle.un_core.specs.History.{after_all}
use Rattle.un_core.specs.Cover.{IsState, MayAllHappen, IsOfHistory}
use Rattle.un_core.specs.Listed.{errors_in}
use Rattle.un_core.specs.Answers.{at_version, query_refusal, refused, asked_on, traced, traced_on, survey_for, kept_survey, fresh_survey, kept_basis, fresh_basis, path_over, check_over, diagram_over}
use Rattle.un_core.specs.Walks.{TwoGroundsLaw}
use Rattle.un_core.specs.Commands.{command_refusal, refusal_reply, accepted}
use Rattle.un_core.specs.Clearing.{fresh_errors}
use Rattle.un_core.specs.HistoryAnswers.{fresh_after, history_survey, history_basis, accepted_after, ReplyLaw, AnswerLaw}
use Rattle.un_core.proofs.Opening.{all_states}
use Rattle.un_core.proofs.HistoryKept.{kept_is_history}
use Rattle.un_core.proofs.Grounds.{history_points}
use Rattle.un_core.proofs.Asked.{kept_points}
use Rattle.un_core.proofs.Listed.{errors_listed}
use Rattle.un_core.proofs.Traces.{fresh_trace, history_trace}
use Rattle.un_core.proofs.WalkAnswers.{path_fresh, check_fresh, diagram_fresh, path_consistent, check_consistent, diagram_consistent, answered_same}
use Rattle.un_core.proofs.Clearing.{validation_does}
use Rattle.un_core.proofs.Accepted.{versions_count}

-- ---- the two grounds

module _ (s : State) (is : IsState s) where
  same_on_fresh : (ask : TypedAsk) → traced_on (kept_basis s) ask ≡ traced_on (fresh_basis s) ask
  same_on_fresh ask = ap (at_version s.version) (go ask.barriers.consistent refl)
    where
      go : (b : Bool) → ask.barriers.consistent ≡ b → traced (survey_for (kept_basis s) b) ask ≡ traced (survey_for (fresh_basis s) b) ask
      go true e = fresh_trace s ask is e
      go false e = refl

  asked_fresh : (what : Asked) → asked_on s (kept_basis s) what ≡ asked_on s (fresh_basis s) what
  asked_fresh (Trace ask) = ap (option_map_or (refused s) (resolving_refusal s.setup s.features ask)) (same_on_fresh (resolved s.setup s.features ask))
  asked_fresh (Path ask) =
      answered_same s (λ typed. at_version s.version (path_over (kept_survey s) typed)) (λ typed. at_version s.version (path_over (fresh_survey s) typed))
      (path_asked s.setup.schema s.features ask)
      (λ typed e. ap (at_version s.version) (path_fresh s is typed (path_consistent s.setup.schema s.features ask typed e)))
  asked_fresh (Check ask) =
      answered_same s (λ typed. at_version s.version (check_over (kept_survey s) typed)) (λ typed. at_version s.version (check_over (fresh_survey s) typed))
      (check_asked s.setup.schema s.features ask)
      (λ typed e. ap (at_version s.version) (check_fresh s is typed (check_consistent s.setup.schema s.features ask typed e)))
  asked_fresh (Diagram ask) =
      answered_same s (λ typed. at_version s.version (diagram_over (kept_survey s) typed)) (λ typed. at_version s.version (diagram_over (fresh_survey s) typed))
      (diagram_asked s.setup.schema s.features ask)
      (λ typed e. ap (at_version s.version) (diagram_fresh s is typed (diagram_consistent s.setup.schema s.features ask typed e)))
  asked_fresh _ = refl

pub two_grounds : TwoGroundsLaw
two_grounds s q is = ap (option_map_or (refused s) (query_refusal s q)) (asked_fresh s is q.what)

-- ---- the history

module _ (S : Setup) (history : List Command) (may : MayAllHappen S history) where
  is : IsState (after_all S history)
  is = all_states S history may

  of_history : IsOfHistory S history
  of_history = kept_is_history S history may

  same_fresh : fresh_survey (after_all S history) ≡ fresh_after S history
  same_fresh = λ i. record {
    topology = fresh_ground (after_all S history).setup.schema (after_all S history).features (of_history.areas i);
    points = standing_points (after_all S history).features;
  }

  by_mode : (ask : TypedAsk) (b : Bool) → ask.barriers.consistent ≡ b
      → traced (survey_for (kept_basis (after_all S history)) b) ask ≡ traced (survey_for (history_basis S history) b) ask
  by_mode ask true e = fresh_trace (after_all S history) ask is e ∙ ap (λ v. traced v ask) same_fresh
  by_mode ask false e = history_trace S history ask may

  same_errors : (extent : _) → errors_in (kept_survey (after_all S history)) extent ≡ errors_in (history_survey S history) extent
  same_errors extent =
      let kept : IsKept (after_all S history).kept = record { sorted = is.sorted; nonempty = is.nonempty } in
      sym (errors_listed (kept_survey (after_all S history)) (after_all S history).kept kept (λ p. refl) (kept_points (after_all S history).kept) extent)
      ∙ errors_listed (history_survey S history) (after_all S history).kept kept (λ p. sym (of_history.kept p)) (history_points S history may) extent

  answered_so : (what : Asked) → asked_on (after_all S history) (kept_basis (after_all S history)) what ≡ asked_on (after_all S history) (history_basis S history) what
  answered_so Version = ap reply.Version (versions_count S history)
  answered_so (Dirty extent) = λ i. reply.Dirty (met extent (of_history.areas i)) (versions_count S history i)
  answered_so (Errors extent) = λ i. reply.Errors (same_errors extent i) (versions_count S history i)
  answered_so (Trace ask) =
      let typed = resolved (after_all S history).setup (after_all S history).features ask in
      λ i. option_map_or (refused (after_all S history)) (resolving_refusal (after_all S history).setup (after_all S history).features ask)
      (at_version (versions_count S history i) (by_mode typed typed.barriers.consistent refl i))
  answered_so (Path ask) =
      let s = after_all S history in
      answered_same s (λ typed. at_version s.version (path_over (kept_survey s) typed)) (λ typed. at_version (length history) (path_over (fresh_after S history) typed))
      (path_asked s.setup.schema s.features ask)
      (λ typed e. let same = path_fresh s is typed (path_consistent s.setup.schema s.features ask typed e) ∙ ap (λ v. path_over v typed) same_fresh in λ i. at_version (versions_count S history i) (same i))
  answered_so (Check ask) =
      let s = after_all S history in
      answered_same s (λ typed. at_version s.version (check_over (kept_survey s) typed)) (λ typed. at_version (length history) (check_over (fresh_after S history) typed))
      (check_asked s.setup.schema s.features ask)
      (λ typed e. let same = check_fresh s is typed (check_consistent s.setup.schema s.features ask typed e) ∙ ap (λ v. check_over v typed) same_fresh in λ i. at_version (versions_count S history i) (same i))
  answered_so (Diagram ask) =
      let s = after_all S history in
      answered_same s (λ typed. at_version s.version (diagram_over (kept_survey s) typed)) (λ typed. at_version (length history) (diagram_over (fresh_after S history) typed))
      (diagram_asked s.setup.schema s.features ask)
      (λ typed e. let same = diagram_fresh s is typed (diagram_consistent s.setup.schema s.features ask typed e) ∙ ap (λ v. diagram_over v typed) same_fresh in λ i. at_version (versions_count S history i) (same i))
  answered_so _ = refl

  accepted_so : (c : Command) → accepted (after_all S history) c ≡ accepted_after S history c
  accepted_so (command.Validate extent) =
      λ i. reply.Validated (length (met extent (of_history.areas i)))
      (((validation_does (after_all S history) extent is).tells ∙ ap (λ areas. fresh_errors (after_all S history) (met extent areas)) of_history.areas) i)
      (versions_count S history i + 1)
  accepted_so _ = refl

pub history_replies : ReplyLaw
history_replies S history c may = ap (option_map_or (refusal_reply (after_all S history) c) (command_refusal (after_all S history) c)) (accepted_so S history may c)

pub history_answers : AnswerLaw
history_answers S history q may = ap (option_map_or (refused (after_all S history)) (query_refusal (after_all S history) q)) (answered_so S history may q.what)
