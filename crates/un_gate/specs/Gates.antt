-- What is known of a door since its opening.
use Rattle.std.specs.Prelude.{◌≡◌, ◌≢◌, ℕ, ◌≤◌, Bool, true, Option, None, Some, ⊤}
use Rattle.un_io.specs.Outside.{Rose}
use Rattle.un_gate.specs.declared.DoorEnd.{DoorEnd}
use Rattle.un_gate.specs.declared.DoorEnd.TheVariants.{Closed, Failed}

-- a door and how it ended, if it has
pub record Gated (D : Type 0) : Type 0 where
  pub door : D
  pub end : Option DoorEnd

-- an end has its cause: a closed door has answered so, and the count of one that failed has risen since the opening
abbrev pub HasCause : ℕ → ℕ → Bool → Option DoorEnd → Type 0
HasCause count faults closed None = ⊤
HasCause count faults closed (Some Closed) = closed ≡ true
HasCause count faults closed (Some Failed) = Rose count faults

-- what holds of a door's count and its end, where the count was `count` at the opening
abbrev pub IsSince : ℕ → ℕ → Bool → Option DoorEnd → Type 0
IsSince count faults closed end = (count ≤ faults) × HasCause count faults closed end

-- a link comes from a door that has not ended, and none comes once it has
abbrev pub NextOf : {L : Type 0} → Option DoorEnd → Option L → Type 0
NextOf end (Some link) = end ≡ None
NextOf end None = end ≢ None
