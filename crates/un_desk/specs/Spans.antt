-- What is gathered from the entries between two versions of a log. A pair is a version and a state.
use Rattle.std.specs.Prelude.{◌⊎◌, ◌-◌, ℕ, List, ◌++◌, take, drop}
use Rattle.std.specs.Arc.{arc_value}
use Rattle.un_machine.specs.declared.Entry.{Entry}
use Rattle.un_machine.specs.Logs.{Leads}
use Rattle.un_publish.specs.declared.session.View.{View}
use Rattle.un_asof.specs.Pasts.{pair_of}

module _ {E : Type 0} where
  -- where what was gathered stood for some entries, it then stands for them and these after them
  abbrev pub StandsForMore : (List E → Type 0) → (List E → Type 0) → List E → Type 0
  StandsForMore stands stands' entries = (before : List E) → stands before → stands' (before ++ entries)

module _ {M C R H K G : Type 0} where
  -- the log's entries after the older version, up to the newer one, lead from the older state to the newer one, and what is gathered stands for them
  pub record IsGathered (step : M → C → (M × (R × K)) ⊎ R) (stands_for : G → List (Entry M C R H K) → Type 0) (log : List (Entry M C R H K)) (older newer : ℕ × M) (gathered : G) : Type 0 where
    pub leads : Leads step older.1 (take (newer.0 - older.0) (drop older.0 log)) newer.1
    pub stands : stands_for gathered (take (newer.0 - older.0) (drop older.0 log))

  -- the same between a view and a view of this version
  abbrev pub IsGatheredTo : (M → C → (M × (R × K)) ⊎ R) → (G → List (Entry M C R H K) → Type 0) → List (Entry M C R H K) → View M → ℕ → G → View M → Type 0
  IsGatheredTo step stands_for log older upto gathered newer = IsGathered step stands_for log (pair_of older) (upto, arc_value newer.state) gathered
