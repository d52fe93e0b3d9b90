-- How often the requests may wait.
use Rattle.std.proofs.Common.{◌⊎◌, ◌≤◌, ◌+◌, ℕ, List, [], ◌∷◌, length, ap, arith}
use Rattle.un_publish.specs.Models.{SessionModel}
use Rattle.un_turns.specs.Turns.{Turn}
use Rattle.un_turns.specs.Conversations.{Conversed, waits_due, known_after, WaitLaw}
use Rattle.un_turns.proofs.Turning.{turn_moves, known_seen}

module _ {M C R H K Q : Type 0} (step : M → C → (M × (R × K)) ⊎ R) (opening : List M) (least : Q → ℕ) where
  waits_from : (known : ℕ) (s t : SessionModel M C R H K) (us : List (Turn M C R H K Q)) → known ≤ length s.seen → Conversed step opening least s us t
      → t.waits ≤ s.waits + waits_due least known us
  waits_from known s t [] k h = let e = ap (λ (x : SessionModel M C R H K). x.waits) h in omega (arith, e)
  waits_from known s t (u ∷ us) k h =
      let one = turn_moves step opening least known s h.0 u k h.1 in
      let rest = waits_from (known_after known u) h.0 t us (known_seen step opening least known s h.0 u k h.1) h.2 in
      omega (arith, one.waits, rest)

  pub waits_bounded : WaitLaw H step opening least
  waits_bounded s t us h = waits_from (length s.seen) s t us (omega arith) h
