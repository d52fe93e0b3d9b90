-- The rule of a board: what the published state and log have to do with what each place at the board knows.
use Rattle.std.specs.Prelude.{◌≡◌, ◌⊎◌, ℕ, List, [], Option, IfSome}
use Rattle.std.specs.Arc.{arc_value}
use Rattle.std.specs.declared.sync.Arc.{Arc}
use mathlib.Core.Option.{some}
use mathlib.Core.List.{IsPrefix}
use lib.ListN.{get_elem?}
use Rattle.un_machine.specs.declared.Entry.{Entry}
use Rattle.un_machine.specs.Logs.{Reaches}
use Rattle.un_publish.specs.declared.published.Known.{Known}

module _ {M C R H K : Type 0} where
  -- a place that knows nothing
  abbrev pub newcomer : Known M C R H K
  newcomer = record { seen = []; told = [] }

  -- a place that learns what the telling place has seen
  abbrev pub informed : Known M C R H K → Known M C R H K → Known M C R H K
  informed v w = record { seen = v.seen; told = w.seen }

  -- the log begins with what each place has seen, and with what it was told
  pub record Fits (log : List (Entry M C R H K)) (v : Known M C R H K) : Type 0 where
    pub seen : IsPrefix v.seen log
    pub told : IsPrefix v.told log

  abbrev pub Keeps : M × List (Entry M C R H K) → List (Known M C R H K) → Type 0
  Keeps x views = (by : ℕ) (v : Known M C R H K) → get_elem? views by ≡ some v → Fits x.1 v

  -- what is then seen is the log of y, which begins with what was seen before and with what was told
  pub record Sees (v : Known M C R H K) (y : M × List (Entry M C R H K)) (w : Known M C R H K) : Type 0 where
    pub seen : IsPrefix v.seen y.1
    pub told : IsPrefix v.told y.1
    pub now : w.seen ≡ y.1
    pub same : w.told ≡ v.told

  -- an entering found this log and its state, if a reference to the state could be taken
  abbrev pub Finds : {A : Type 0} → (M → C → (M × (R × K)) ⊎ R) → List M → Known M C R H K → List (Entry M C R H K) → Option (Arc M A) → Known M C R H K → Type 0
  Finds step opening v log state w = (s : M) × Sees v (s, log) w × Reaches step opening log s × IfSome state (λ a. arc_value a ≡ s)

  -- the next entering finds at least this log
  abbrev pub IsReady : Known M C R H K → List (Entry M C R H K) → Type 0
  IsReady v log = (v.seen ≡ log) ⊎ (v.told ≡ log)
