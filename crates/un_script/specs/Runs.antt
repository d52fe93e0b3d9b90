-- What the commands do, by their status.
use Rattle.std.specs.Prelude.{ℕ, List, Option}
use Rattle.un_words.specs.Words.{IsCommand}
use Rattle.un_words.specs.declared.command.ProgramCommand.TheVariants.{Script, Follow, Make}
use Rattle.un_status.specs.Statuses.{WritesLine}
use Rattle.un_script.specs.Statuses.{RunsBy}
use Rattle.un_script.specs.Script.{script}
use Rattle.un_script.specs.History.{by_history}
use Rattle.un_script.specs.Following.{follow}
use Rattle.un_script.specs.Made.{made_line}

-- the word `script` alone
abbrev pub IsScript : List (List ℕ) → Type 0
IsScript words = IsCommand words Script

-- the word `follow` alone
abbrev pub IsFollow : List (List ℕ) → Type 0
IsFollow words = IsCommand words Follow

-- `make` with a seed and a count
abbrev pub IsMake : List (List ℕ) → Type 0
IsMake words = (seed : ℕ) × ((count : ℕ) × IsCommand words (Make seed count))

-- What a script's status says of the bytes left and taken before and after it, and of the counts of faults. What is due is
-- said twice: by the states that the lines left, and by the accepted commands alone.
pub record RunsScript (left left' taken taken' : Option (List ℕ)) (reads reads' writes writes' status : ℕ) : Type 0 where
  pub by_states : RunsBy script left left' taken taken' reads reads' writes writes' status
  pub by_commands : RunsBy by_history left left' taken taken' reads reads' writes writes' status

-- What the status of a follower says of them: what is due for the bytes read is what `follow` has, the copy of which is that of the pages
-- among the lines before.
abbrev pub RunsFollow : (left left' taken taken' : Option (List ℕ)) (reads reads' writes writes' status : ℕ) → Type 0
RunsFollow = RunsBy follow

-- What the status of `make` says of its line, of the bytes taken, and of the sink's count of faults.
abbrev pub RunsMake : (line : List ℕ) (taken taken' : Option (List ℕ)) (writes writes' status : ℕ) → Type 0
RunsMake = WritesLine

-- The same over a source and a sink, with the functions that say which bytes are left or taken, and how many faults were counted.
abbrev pub RunsScriptOver : {S K : Type 0} → (S → Option (List ℕ)) → (S → ℕ) → S → S → (K → Option (List ℕ)) → (K → ℕ) → K → K → ℕ → Type 0
RunsScriptOver left reads source source' taken writes sink sink' status = RunsScript (left source) (left source') (taken sink) (taken sink') (reads source) (reads source') (writes sink) (writes sink') status

abbrev pub RunsFollowOver : {S K : Type 0} → (S → Option (List ℕ)) → (S → ℕ) → S → S → (K → Option (List ℕ)) → (K → ℕ) → K → K → ℕ → Type 0
RunsFollowOver left reads source source' taken writes sink sink' status = RunsFollow (left source) (left source') (taken sink) (taken sink') (reads source) (reads source') (writes sink) (writes sink') status

-- where the words are `make` with a seed and a count, its line is that of these two
abbrev pub RunsMakeOver : {K : Type 0} → List (List ℕ) → (K → Option (List ℕ)) → (K → ℕ) → K → K → ℕ → Type 0
RunsMakeOver words taken writes sink sink' status = (seed count : ℕ) → IsCommand words (Make seed count) → RunsMake (made_line seed count) (taken sink) (taken sink') (writes sink) (writes sink') status
