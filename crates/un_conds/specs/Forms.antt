-- The conditions that forms in memory are, without the places of their parts.
use Rattle.std.specs.Prelude.{ℕ, List}
use Rattle.un_conds.specs.declared.form.Form as form
use Rattle.un_conds.specs.declared.raw.RawCond as raw
use Rattle.un_conds.specs.Conditions.{Condition, Has, Test, And, Or, Not}

-- the condition that is kept
abbrev pub plain : form.Form → Condition ℕ
plain (form.Has c) = Has c
plain (form.Test op a n) = Test op a n
plain (form.And' p c q d) = And (plain c) (plain d)
plain (form.Or' p c q d) = Or (plain c) (plain d)
plain (form.Not' p c) = Not (plain c)

-- the condition as it is written
abbrev pub written : raw.RawCond → Condition (List ℕ)
written (raw.Has c) = Has c
written (raw.Test op a n) = Test op a n
written (raw.And' p c q d) = And (written c) (written d)
written (raw.Or' p c q d) = Or (written c) (written d)
written (raw.Not' p c) = Not (written c)
