-- What is kept beside a session as it sees more.
use Rattle.std.proofs.Common.{◌⊎◌, ℕ, List, Option, Some, None, arith}
use Rattle.un_machine.specs.declared.Entry.{Entry}
use mathlib.Core.List.{IsPrefix}
use Rattle.un_asof.specs.Pasts.{LongerLaw}
use Rattle.un_publish.specs.Models.{SessionModel}
use Rattle.un_turns.specs.declared.request.Request.{Request}
use Rattle.un_turns.specs.declared.request.Response.{Response}
use Rattle.un_turns.specs.Pasts.{IsKeptFor}
use Rattle.un_turns.specs.Served.{Answering, IsServed}
use Rattle.un_publish.specs.declared.session.View.{View}
use Rattle.un_desk.specs.declared.desk.ViewFault.{ViewFault}
use Rattle.un_turns.specs.Turns.{IsAnswered, IsUnanswered}
use Rattle.un_turns.proofs.Turning.{answered_moves, unanswered_moves, turn_seen}

module _ {M C R H K : Type 0} (step : M → C → (M × (R × K)) ⊎ R) (opening : List M) where
  pub kept_longer : LongerLaw H step opening → (kept : Option (List (ℕ × M))) (xs ys : List (Entry M C R H K)) → IsPrefix xs ys → IsKeptFor step opening kept xs → IsKeptFor step opening kept ys
  kept_longer law None xs ys begins h = tt
  kept_longer law (Some past) xs ys begins h = law past xs ys begins h

  pub answered_seen : (s t : SessionModel M C R H K) (n : ℕ) (v : View M) → IsAnswered step opening s t n v → IsPrefix s.seen t.seen
  answered_seen s t n v h = (answered_moves step opening s t 0 n v (omega arith) h).seen

  pub unanswered_seen : (s t : SessionModel M C R H K) (n : ℕ) (f : ViewFault) → IsUnanswered step opening s t n f → IsPrefix s.seen t.seen
  unanswered_seen s t n f h = (unanswered_moves step opening s t 0 n f (omega arith) h).seen

module _ {M C R H K Q A : Type 0} (step : M → C → (M × (R × K)) ⊎ R) (opening : List M) (least : Q → ℕ) (answer : Answering M Q A) where
  pub served_seen : (s t : SessionModel M C R H K) (q : Request C Q) (r : Response R A) → IsServed step opening least answer s q r t → IsPrefix s.seen t.seen
  served_seen s t q r h = turn_seen step opening least s t h.turn h.is
