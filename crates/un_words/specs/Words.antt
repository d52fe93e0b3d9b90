-- The commands of a program, by the words after its name.
use Rattle.std.specs.Prelude.{◌≡◌, ℕ, ◌^◌, ◌<◌, ◌≤◌, List, [], ◌∷◌, Option, MatchOption, codes, decimal}
use Rattle.un_words.specs.declared.command.ProgramCommand.{ProgramCommand}
use Rattle.un_words.specs.declared.command.ProgramCommand.TheVariants.{Script, Follow, Make, Serve}

-- The words are this command: its name, and its numbers in decimal digits, without a sign and without leading zeros. Each
-- number is in its range.
abbrev pub IsCommand : List (List ℕ) → ProgramCommand → Type 0
IsCommand words Script = words ≡ codes "script" ∷ []
IsCommand words Follow = words ≡ codes "follow" ∷ []
IsCommand words (Make seed count) = (words ≡ codes "make" ∷ decimal seed ∷ decimal count ∷ []) × (seed < 2 ^ 32) × (1 ≤ count) × (count ≤ 20000)
IsCommand words (Serve port workers) = (words ≡ codes "serve" ∷ decimal port ∷ decimal workers ∷ []) × (1 ≤ port) × (port < 2 ^ 16) × (1 ≤ workers) × (workers ≤ 64)

-- the command that the words are, or none if they are none
abbrev pub ReadsCommand : List (List ℕ) → Option ProgramCommand → Type 0
ReadsCommand words result = MatchOption result ((command : ProgramCommand) → ¬ (IsCommand words command)) (IsCommand words)
