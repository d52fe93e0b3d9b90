-- The condition by numbers that a condition by names stands for.
use Rattle.std.specs.Prelude.{ℕ, if◌then◌else◌, List, Option, None, option_and_then}
use Rattle.std.specs.Option.{option_map}
use Rattle.un_conds.specs.Conditions.{Condition, Has, Test, And, Or, Not}
use Rattle.un_conds.specs.Names.{place_of}
use Rattle.un_conds.specs.Sizes.{is_small}

-- two conditions joined, where there are both
abbrev pub joined : (Condition ℕ → Condition ℕ → Condition ℕ) → Option (Condition ℕ) → Option (Condition ℕ) → Option (Condition ℕ)
joined join first second = option_and_then (λ c. option_map (join c) second) first

-- each name replaced by its place among the attributes or the categories, where all have one
abbrev pub numbered : List (List ℕ) → List (List ℕ) → Condition (List ℕ) → Option (Condition ℕ)
numbered attributes categories (Has name) = option_map Has (place_of name categories)
numbered attributes categories (Test op name n) = option_map (λ a. Test op a n) (place_of name attributes)
numbered attributes categories (And c d) = joined And (numbered attributes categories c) (numbered attributes categories d)
numbered attributes categories (Or c d) = joined Or (numbered attributes categories c) (numbered attributes categories d)
numbered attributes categories (Not c) = option_map Not (numbered attributes categories c)

-- the condition by numbers; none where a name is unknown, or the condition is more than 16 deep or has more than 64 parts
abbrev pub resolved : List (List ℕ) → List (List ℕ) → Condition (List ℕ) → Option (Condition ℕ)
resolved attributes categories c = if is_small c then numbered attributes categories c else None
