-- The past that is kept beside a session.
use Rattle.std.specs.Prelude.{◌⊎◌, ℕ, List, Option, ⊤, MatchOption}
use Rattle.un_machine.specs.declared.Entry.{Entry}
use Rattle.un_asof.specs.Pasts.{StandsFor}

module _ {M C R H K : Type 0} where
  -- if a past is kept, it stands for these entries
  abbrev pub IsKeptFor : (M → C → (M × (R × K)) ⊎ R) → List M → Option (List (ℕ × M)) → List (Entry M C R H K) → Type 0
  IsKeptFor step opening kept seen = MatchOption kept ⊤ (λ past. StandsFor step opening past seen)

module _ {M C R K : Type 0} where
  -- the past stands for each log for which the one that was kept stands, and for each log if none was
  abbrev pub TakenLaw : (H : Type 0) → (M → C → (M × (R × K)) ⊎ R) → List M → Option (List (ℕ × M)) → List (ℕ × M) → Type 0
  TakenLaw H step opening kept past = (log : List (Entry M C R H K)) → IsKeptFor step opening kept log → StandsFor step opening past log
