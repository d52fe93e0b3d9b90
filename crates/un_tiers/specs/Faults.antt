-- What a fault names.
use Rattle.std.specs.Prelude.{ℕ, ⊤}
use Rattle.un_tiers.specs.declared.fault.TierFault.{TierFault}
use Rattle.un_tiers.specs.declared.fault.TierFault.TheVariants.{BadTier, Memory}

-- what holds of the place that a fault names, if it names one
abbrev pub OnBadTier : TierFault → (ℕ → Type 0) → Type 0
OnBadTier (BadTier place) P = P place
OnBadTier Memory P = ⊤
