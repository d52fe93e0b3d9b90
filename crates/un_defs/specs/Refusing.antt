-- Refusals that may be due, in the order in which their causes are looked at.
use Rattle.std.specs.Prelude.{◌≡◌, ◌≢◌, Bool, true, false, List, [], ◌∷◌, Option, None, Some, Result, IfErr}
use Rattle.un_defs.specs.declared.refusal.Refusal.{Refusal}
use Rattle.un_defs.specs.declared.refusal.Refusal.TheVariants.{Memory}

-- the first refusal of several that may be due
abbrev pub first_refusal : List (Option Refusal) → Option Refusal
first_refusal [] = None
first_refusal (None ∷ rest) = first_refusal rest
first_refusal (Some r ∷ rest) = Some r

-- a refusal that is due where the test holds
abbrev pub refused_if : Bool → Refusal → Option Refusal
refused_if true r = Some r
refused_if false r = None

-- an answer refuses only where this cause is due, and names it, but for want of memory
abbrev pub Refuses : {A : Type 0} → Result A Refusal → Option Refusal → Type 0
Refuses result cause = IfErr result (λ r. r ≢ Memory → cause ≡ Some r)
