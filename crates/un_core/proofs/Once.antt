-- Each kept star was the star of all features at its point once.
use Rattle.std.proofs.Common.{◌≡◌, ◌⊎◌, Bool, true, false, List, [], ◌∷◌, ◌++◌, inl, inr, refl, sym, ap, subst, ◌∙◌}
use Rattle.std.proofs.lemmas.List.{append_assoc}
use Rattle.un_geom.specs.declared.point.Point.{Point}
use Rattle.un_schema.specs.Sound.{IsCatalog}
use Rattle.un_defs.specs.declared.star.Star.{Star}
use Rattle.un_defs.proofs.Members.{among_from_contains}
use Rattle.un_index.specs.Kept.{stars_of}
use Rattle.un_ask.specs.declared.request.Command.{Command}
use Rattle.un_ask.specs.declared.request.Command.TheVariants as command
use Rattle.un_machine.specs.Logs.{Leads}
use Rattle.un_tiers.specs.declared.setup.Setup.{Setup}
use Rattle.un_core.specs.State.{State, opening, fresh_star}
use Rattle.un_core.specs.Validation.{met, is_under, rebuilt}
use Rattle.un_core.specs.Step.{rule_of, next_state}
use Rattle.un_core.specs.Cover.{IsState}
use Rattle.un_core.specs.Commands.{step}
use Rattle.un_core.specs.Logs.{LogEntry}
use Rattle.un_core.specs.Changes.{IsOnTheWay, KeptWereFreshLaw}
use Rattle.un_core.proofs.Accepted.{may_happen, same_setup}
use Rattle.un_core.proofs.CoverKept.{cover_is_kept}
use Rattle.un_core.proofs.HistoryKept.{made_kept, ruled_kept}
use Rattle.un_core.proofs.LookUps.{sorted_map, found_at}
use Rattle.un_core.proofs.Logs.{done, logs_are_histories}
use Rattle.un_core.proofs.Opening.{opening_state}
use Rattle.un_core.proofs.Rebuilding.{rebuilt_under, rebuilt_elsewhere}

-- a command leaves a kept star, or puts the one of all features in its place
either : (s : State) (c : Command) → IsState s → (p : Point) → (stars_of (next_state s c).kept p ≡ stars_of s.kept p) ⊎ (stars_of (next_state s c).kept p ≡ fresh_star s p)
either s (command.Edit e) is p = inl refl
either s (command.Batch es) is p = inl (ap (λ kept. stars_of kept p) (made_kept s es))
either s (command.Validate extent) is p = go (is_under (met extent s.areas) p) refl
  where
    go : (b : Bool) → is_under (met extent s.areas) p ≡ b
        → (stars_of (rebuilt s (met extent s.areas)) p ≡ stars_of s.kept p) ⊎ (stars_of (rebuilt s (met extent s.areas)) p ≡ fresh_star s p)
    go true e = inr (rebuilt_under s (met extent s.areas) is.sound (sorted_map s.kept is.sorted) p e)
    go false e = inl (rebuilt_elsewhere s (met extent s.areas) (sorted_map s.kept is.sorted) p e)
either s (command.Update tier subnet) is p = inl refl
either s (command.Rule named) is p = inl (ap (λ kept. stars_of kept p) (ruled_kept s (rule_of s named)))

leads_more : (s m t : State) (log : List LogEntry) (e : LogEntry) → Leads step s log m → step m e.cmd ≡ inl (t, (e.reply, e.mark)) → Leads step s (log ++ e ∷ []) t
leads_more s m t [] e leads is = (t, subst (λ (u : State). step u e.cmd ≡ inl (t, (e.reply, e.mark))) (sym leads) is, refl)
leads_more s m t (x ∷ log) e leads is = (leads.0, leads.1, leads_more leads.0 m t log e leads.2 is)

module _ (S : Setup) (log : List LogEntry) (p : Point) where
  abbrev WasFresh : Star → Type 0
  WasFresh star = (m : State) × IsOnTheWay S log m × (star ≡ fresh_star m p)

  was_fresh : (before after : List LogEntry) (s t : State) → log ≡ before ++ after → IsState s → IsCatalog s.setup.schema → Leads step (opening S) before s
      → Leads step s after t → WasFresh (stars_of s.kept p) → WasFresh (stars_of t.kept p)
  was_fresh before [] s t is state schema front leads was = subst (λ (u : State). WasFresh (stars_of u.kept p)) leads was
  was_fresh before (e ∷ after) s t is state schema front leads was =
      let one = done s e.cmd leads.0 (e.reply, e.mark) leads.1 in
      let may = may_happen s e.cmd state schema one.0 in
      let next = subst IsState one.1.0 (cover_is_kept s e.cmd state may) in
      let catalog = subst (λ (S : Setup). IsCatalog S.schema) (sym (same_setup s e.cmd) ∙ ap (λ (u : State). u.setup) one.1.0) schema in
      let here : WasFresh (stars_of (next_state s e.cmd).kept p) = elim (either s e.cmd state p) [
        | inl same ↦ subst WasFresh (sym same) was
        | inr fresh ↦ (s, record { done = before; rest = e ∷ after; is = is; leads = front }, fresh)
      ] in
      was_fresh (before ++ e ∷ []) after leads.0 t (is ∙ sym (append_assoc before (e ∷ []) after)) next catalog
      (leads_more (opening S) s leads.0 before e front leads.1) leads.2 (subst (λ (u : State). WasFresh (stars_of u.kept p)) one.1.0 here)

pub kept_were_fresh : KeptWereFreshLaw
kept_were_fresh S log s schema leads pair i =
    let state = (logs_are_histories S log s schema leads).0.state in
    let opened : WasFresh S log pair.0 (stars_of (opening S).kept pair.0) = (opening S, record { done = []; rest = log; is = refl; leads = refl }, refl) in
    let was = was_fresh S log pair.0 [] log (opening S) s refl (opening_state S) schema refl leads opened in
    (was.0, was.1, sym (found_at s.kept (sorted_map s.kept state.sorted) pair (among_from_contains s.kept pair i)) ∙ was.2)
