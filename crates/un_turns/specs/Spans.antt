-- Two states of one log, and what was gathered of the entries between them.
use Rattle.std.specs.Prelude.{◌⊎◌, List}
use Rattle.un_machine.specs.declared.Entry.{Entry}
use Rattle.un_machine.specs.Logs.{Leads}

module _ {M C R H K G : Type 0} where
  -- some entries lead from the older state to the newer one, and what is gathered stands for them
  pub record HasEntries (step : M → C → (M × (R × K)) ⊎ R) (stands_for : G → List (Entry M C R H K) → Type 0) (old new : M) (gathered : G) : Type 0 where
    pub entries : List (Entry M C R H K)
    pub leads : Leads step old entries new
    pub stands : stands_for gathered entries
