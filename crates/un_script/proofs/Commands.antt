-- The commands of a program, by their words.
use Rattle.std.proofs.Common.{◌≡◌, ℕ, zero, suc, arith, [], ◌∷◌, Some, Contains, lit<}
use Rattle.un_words.specs.declared.command.ProgramCommand.TheVariants.{Make}
use Rattle.un_script.specs.Made.{made_line}

-- each status of a script is one of a program
pub widened : (status : ℕ) → Contains (0 ∷ 3 ∷ 4 ∷ 6 ∷ 7 ∷ 8 ∷ []) status → Contains (0 ∷ 2 ∷ 3 ∷ 4 ∷ 6 ∷ 7 ∷ 8 ∷ []) status
widened status (zero, below, is) = (0, lit< tt, is)
widened status (suc zero, below, is) = (2, lit< tt, is)
widened status (suc (suc zero), below, is) = (3, lit< tt, is)
widened status (suc (suc (suc zero)), below, is) = (4, lit< tt, is)
widened status (suc (suc (suc (suc zero))), below, is) = (5, lit< tt, is)
widened status (suc (suc (suc (suc (suc zero)))), below, is) = (6, lit< tt, is)
widened status (suc (suc (suc (suc (suc (suc n))))), below, is) = absurd (omega (arith, below))

-- equal words of `make` have one line
pub same_make : (seed count seed' count' : ℕ) → Some (Make seed count) ≡ Some (Make seed' count') → made_line seed count ≡ made_line seed' count'
same_make seed count seed' count' is = cc
