-- What a fault names.
use Rattle.std.specs.Prelude.{ℕ, ⊤}
use Rattle.un_terms.specs.declared.fault.TermFault.{TermFault}
use Rattle.un_terms.specs.declared.fault.TermFault.TheVariants.{BadPair, Memory}

-- what holds of the path that a fault names, if it names one
abbrev pub OnBadPair : TermFault → (ℕ → Type 0) → Type 0
OnBadPair (BadPair path) P = P path
OnBadPair Memory P = ⊤
