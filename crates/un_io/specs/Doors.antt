-- What comes to a door, what that means for its count of faults, and what a door in memory gives.
use Rattle.std.specs.Prelude.{◌≡◌, ℕ, ◌≤◌, Bool, true, false, if◌then◌else◌, List, [], ◌∷◌, drop}
use Rattle.un_io.specs.declared.door.Came.{Came}
use Rattle.un_io.specs.declared.door.Came.TheVariants.{Line, Closed, Failed}
use Rattle.un_io.specs.Outside.{Rose}
use Rattle.un_io.specs.Plans.{fails, one_more}
use Rattle.un_io.specs.States.{Ends, Queue, Schedule}

-- the count of faults never falls, and a failed call has raised it
abbrev pub CountsCame : {L : Type 0} → ℕ → ℕ → Came L → Type 0
CountsCame old new Failed = (old ≤ new) × Rose old new
CountsCame old new Closed = new ≡ old
CountsCame old new (Line link) = new ≡ old

-- whether the door has answered that it is closed
abbrev pub Closes : {L : Type 0} → Bool → Bool → Came L → Type 0
Closes old new Failed = new ≡ old
Closes old new Closed = new ≡ true
Closes old new (Line link) = new ≡ old

-- the first of the links that are still to come
abbrev pub first_link : List Ends → Came Ends
first_link [] = Closed
first_link (link ∷ links) = Line link

-- a door at which these links will arrive, before its first call
abbrev pub new_door : List Ends → Schedule → Queue
new_door arriving schedule = record {
  links = arriving;
  plan = schedule;
  calls = 0;
  faults = 0;
  closed = false;
}

-- what comes next to a door in memory
abbrev pub next_came : Queue → Came Ends
next_came d = if fails d.plan d.calls then Failed else first_link d.links

-- the door in memory after what came
abbrev pub door_behind : Queue → Came Ends → Queue
door_behind d Failed = record d { calls = one_more d.calls; faults = one_more d.faults }
door_behind d Closed = record d { calls = one_more d.calls; closed = true }
door_behind d (Line link) = record d { links = drop 1 d.links; calls = one_more d.calls }
