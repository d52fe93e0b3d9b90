-- Which statuses come, and from which cause.
use Rattle.std.proofs.Common.{◌≡◌, ℕ, zero, suc, arith, [], ◌∷◌, Contains, lit<, refl}
use Rattle.un_serve.specs.declared.run.OpenFault.{OpenFault}
use Rattle.un_serve.specs.declared.run.OpenFault.TheVariants.{Source, NoSchema, Memory, Limit}
use Rattle.un_serve.specs.Running.{fault_status}

pub fault_statuses : (fault : OpenFault) → Contains (0 ∷ 2 ∷ 3 ∷ 5 ∷ 6 ∷ 7 ∷ 8 ∷ []) (fault_status fault)
fault_statuses Source = (2, lit< tt, refl)
fault_statuses NoSchema = (4, lit< tt, refl)
fault_statuses Memory = (5, lit< tt, refl)
fault_statuses Limit = (6, lit< tt, refl)

pub is_source : (fault : OpenFault) → fault_status fault ≡ 3 → fault ≡ Source
is_source Source is = refl
is_source NoSchema is = cc
is_source Memory is = cc
is_source Limit is = cc

pub widened : (status : ℕ) → Contains (0 ∷ 5 ∷ 7 ∷ []) status → Contains (0 ∷ 2 ∷ 3 ∷ 5 ∷ 6 ∷ 7 ∷ 8 ∷ []) status
widened status (zero, below, is) = (0, lit< tt, is)
widened status (suc zero, below, is) = (3, lit< tt, is)
widened status (suc (suc zero), below, is) = (5, lit< tt, is)
widened status (suc (suc (suc n)), below, is) = absurd (omega (arith, below))
