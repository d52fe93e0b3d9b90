-- The numbers that texts write.
use Rattle.std.specs.Prelude.{◌≡◌, ◌≢◌, ℕ, ◌≤◌, List, Option, MatchOption, decimal}

-- the number from least to most that the text writes in decimal digits, or none if it writes no such number
abbrev pub ReadsNumber : List ℕ → ℕ → ℕ → Option ℕ → Type 0
ReadsNumber text least most result = MatchOption result ((number : ℕ) → least ≤ number → number ≤ most → text ≢ decimal number) (λ number. (text ≡ decimal number) × (least ≤ number) × (number ≤ most))
