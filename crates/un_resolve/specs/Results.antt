-- The result of a look-up, by what it should be.
use Rattle.std.specs.Prelude.{◌≡◌, ◌≢◌, Result, Ok, Err, IfOk, IfErr}
use Rattle.un_defs.specs.declared.refusal.Refusal.{Refusal}
use Rattle.un_defs.specs.declared.refusal.Refusal.TheVariants.{Memory}

-- a value is the one that is asked for
abbrev pub ResolvesTo : {A : Type 0} → Result A Refusal → Result A Refusal → Type 0
ResolvesTo result asked = IfOk result (λ value. asked ≡ Ok value)

-- an error is the refusal in place of what is asked for, or one of want of memory
abbrev pub RefusesWith : {A : Type 0} → Result A Refusal → Result A Refusal → Type 0
RefusesWith result asked = IfErr result (λ r. r ≢ Memory → asked ≡ Err r)
