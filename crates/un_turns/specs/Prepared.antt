-- A command for which work is done in advance, after a read.
use Rattle.std.specs.Prelude.{◌⊎◌, List}
use Rattle.un_machine.specs.declared.Entry.{Entry}
use Rattle.un_machine.specs.Logs.{Reaches}
use Rattle.un_publish.specs.Models.{SessionModel}
use Rattle.un_publish.specs.declared.session.View.{View}
use Rattle.un_publish.specs.declared.session.SessionFault.{SessionFault}
use Rattle.un_journal.specs.declared.receipt.Receipt.{Receipt}
use Rattle.un_desk.specs.Desks.{IsSubmitted, IsDeskFault, counted}
use Rattle.un_turns.specs.Turns.{IsRead}

module _ {M C R H K : Type 0} where
  -- work that was done at the state after these entries
  abbrev pub IsPreparedAfter : (M → C → (M × (R × K)) ⊎ R) → (H → M → Type 0) → List M → List (Entry M C R H K) → H → Type 0
  IsPreparedAfter step prepared opening seen hint = (s : M) × Reaches step opening seen s × prepared hint s

module _ {M C R K : Type 0} where
  -- a session may read before it submits a command: the two calls do what submitting alone may do
  abbrev pub ReadFirstLaw : (H : Type 0) → (M → C → (M × (R × K)) ⊎ R) → List M → Type 0
  ReadFirstLaw H step opening =
      (s m t : SessionModel M C R H K) (v : View M) (cmd : C) (r : Receipt M C R H K)
      → IsRead step opening s m v → IsSubmitted step opening m t cmd r → IsSubmitted step opening s t cmd r

  abbrev pub ReadFirstFaultLaw : (H : Type 0) → (M → C → (M × (R × K)) ⊎ R) → List M → Type 0
  ReadFirstFaultLaw H step opening =
      (s m t : SessionModel M C R H K) (v : View M) (f : SessionFault)
      → IsRead step opening s m v → IsDeskFault (counted m) t f → IsDeskFault (counted s) t f
