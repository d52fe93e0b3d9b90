-- How deep and how large a condition is.
use Rattle.std.specs.Prelude.{ℕ, ◌+◌, ◌<◌, ◌≤◌, nat_le, max, Bool, ◌&&◌}
use Rattle.un_conds.specs.Conditions.{Condition, Has, Test, And, Or, Not}

-- a comparison and a category have depth 1; what joins conditions is one deeper than the deepest of them
abbrev pub depth : {N : Type 0} → Condition N → ℕ
depth (Has c) = 1
depth (Test op a n) = 1
depth (And c d) = max (depth c) (depth d) + 1
depth (Or c d) = max (depth c) (depth d) + 1
depth (Not c) = depth c + 1

-- the number of its parts: comparisons, categories and what joins them
abbrev pub node_count : {N : Type 0} → Condition N → ℕ
node_count (Has c) = 1
node_count (Test op a n) = 1
node_count (And c d) = node_count c + node_count d + 1
node_count (Or c d) = node_count c + node_count d + 1
node_count (Not c) = node_count c + 1

-- its attributes and categories are among 32
abbrev pub HasSmallNumbers : Condition ℕ → Type 0
HasSmallNumbers (Has c) = c < 32
HasSmallNumbers (Test op a n) = a < 32
HasSmallNumbers (And c d) = HasSmallNumbers c × HasSmallNumbers d
HasSmallNumbers (Or c d) = HasSmallNumbers c × HasSmallNumbers d
HasSmallNumbers (Not c) = HasSmallNumbers c

-- what holds of each condition that is kept
pub record IsSmall (c : Condition ℕ) : Type 0 where
  pub shallow : depth c ≤ 16
  pub few : node_count c ≤ 64
  pub numbers : HasSmallNumbers c

-- a condition that is not too deep and not too large
abbrev pub is_small : {N : Type 0} → Condition N → Bool
is_small c = nat_le (depth c) 16 && nat_le (node_count c) 64
