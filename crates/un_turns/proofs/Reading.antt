-- A read, and after it a call of the desk.
use Rattle.std.proofs.Common.{◌≡◌, ◌⊎◌, ◌≤◌, ◌<◌, ℕ, List, length, Result, Ok, Err, IfOk, IfErr, refl, inl, inr}
use Rattle.std.specs.Prelude.{OnOk}
use Rattle.std.specs.Arc.{arc_value}
use mathlib.Core.List.{IsPrefix}
use Rattle.un_machine.specs.Logs.{Reaches}
use Rattle.un_publish.specs.Models.{SessionModel}
use Rattle.un_publish.specs.declared.session.View.{View}
use Rattle.un_publish.specs.declared.session.SessionFault.TheVariants.{Memory}
use Rattle.un_desk.specs.Desks.{counted}
use Rattle.un_desk.specs.Views.{IsViewFault}
use Rattle.un_desk.specs.declared.desk.ViewFault.{ViewFault}
use Rattle.un_desk.specs.declared.desk.ViewFault.TheVariants.{Memory as NoMemory}
use Rattle.un_turns.specs.Turns.{IsOlder, IsAnswered, IsUnanswered}

module _ {M C R H K : Type 0} (step : M → C → (M × (R × K)) ⊎ R) (opening : List M) (s m t : SessionModel M C R H K) (n : ℕ) (v : View M) where
  pub read_older : v.version ≡ length m.seen → Reaches step opening m.seen (arc_value v.state) → IsPrefix s.seen m.seen → m ≡ record s { seen = m.seen } → v.version < n → IsOlder step opening s m n
  read_older version state seen kept lt = record { view = v; read = record { seen = seen; version = version; reaches = state; kept = kept }; older = lt }

  -- the desk gave a view after the read gave an older one
  pub answered_later : (r : Result (View M) ViewFault) → IsOlder step opening s m n
      → IfOk r (λ w. (w.version ≡ length t.seen) × (n ≤ w.version)) → IfOk r (λ w. Reaches step opening t.seen (arc_value w.state))
      → OnOk r (t ≡ record (counted m) { seen = t.seen }) → IsPrefix m.seen t.seen → IfOk r (IsAnswered step opening s t n)
  answered_later (Ok w) o version state kept seen = (version.1, inr (m, o, record { seen = seen; version = version.0; reaches = state; kept = kept }))
  answered_later (Err e) o version state kept seen = tt

  -- the desk gave none
  pub unanswered_later : (r : Result (View M) ViewFault) → IsOlder step opening s m n
      → IfErr r (IsViewFault (counted m) t n) → IsPrefix m.seen t.seen → IfErr r (IsUnanswered step opening s t n)
  unanswered_later (Ok w) o fault seen = tt
  unanswered_later (Err e) o fault seen = inr (m, o, fault, seen)

module _ {M C R H K : Type 0} (step : M → C → (M × (R × K)) ⊎ R) (opening : List M) (s t : SessionModel M C R H K) (n : ℕ) (v : View M) where
  -- a view at which memory runs out
  pub answered_no_more : IsAnswered step opening s t n v → IsUnanswered step opening s t n NoMemory
  answered_no_more h =
      elim h.1 as (λ _. IsUnanswered step opening s t n NoMemory) [
        | inl r ↦ inl (Memory, refl, r.kept, r.seen)
        | inr w ↦ inr (w.0, w.1, w.2.kept, w.2.seen)
      ]
