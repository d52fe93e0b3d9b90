-- Refusals that are due, and none of which is one of want of memory.
use Rattle.std.proofs.Common.{◌≢◌, Bool, true, false, List, [], ◌∷◌, Option, None, Some}
use Rattle.std.specs.Prelude.{⊤}
use Rattle.std.specs.Option.{IfSome}
use Rattle.un_defs.specs.declared.refusal.Refusal.{Refusal}
use Rattle.un_defs.specs.declared.refusal.Refusal.TheVariants as refusal
use Rattle.un_defs.specs.Refusing.{first_refusal, refused_if}

-- a refusal that may be due is none of want of memory
unfoldable pub IsOther : Option Refusal → Type 0
IsOther d = IfSome d (λ r. r ≢ refusal.Memory)

unfoldable pub AreOther : List (Option Refusal) → Type 0
AreOther [] = ⊤
AreOther (d ∷ ds) = IsOther d × AreOther ds

pub first_other : (ds : List (Option Refusal)) → AreOther ds → IsOther (first_refusal ds)
unfolding IsOther AreOther
first_other [] others = tt
first_other (None ∷ ds) others = first_other ds others.1
first_other (Some r ∷ ds) others = others.0

pub other_where : (b : Bool) (r : Refusal) → r ≢ refusal.Memory → IsOther (refused_if b r)
unfolding IsOther
other_where true r other = other
other_where false r other = tt
