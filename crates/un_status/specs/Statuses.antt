-- What programs do, by the status that they end with.
use Rattle.std.specs.Prelude.{◌≡◌, ◌⊎◌, ℕ, List, [], ◌∷◌, Option, Some, None, Contains}
use Rattle.std.specs.Io.KnownBytes.{Appends}
use Rattle.un_io.specs.Outside.{Rose, AppendsPrefix}
use Rattle.un_gate.specs.declared.DoorEnd.{DoorEnd}
use Rattle.un_gate.specs.declared.DoorEnd.TheVariants.{Closed, Failed}

-- What the status of a program that makes a line and writes it says of the bytes taken, and of the sink's count of faults.
pub record WritesLine (line : List ℕ) (taken taken' : Option (List ℕ)) (writes writes' status : ℕ) : Type 0 where
  pub statuses : Contains (0 ∷ 4 ∷ 7 ∷ []) status
  -- 0: the line is written
  pub done : status ≡ 0 → Appends taken taken' line
  -- 4: the sink failed; a prefix of the line is written, and some of it is not
  pub sink_fault : status ≡ 4 → AppendsPrefix taken taken' line
  pub sink_cause : status ≡ 4 → Rose writes writes'
  -- unless the sink fails it is 0, or 7 where there was no memory to make the line
  pub complete : ¬ Rose writes writes' → (status ≡ 0) ⊎ (status ≡ 7)

-- the status of a server after its door has ended
abbrev pub door_status : Option DoorEnd → ℕ
door_status (Some Closed) = 0
door_status (Some Failed) = 5
door_status None = 7
