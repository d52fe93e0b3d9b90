-- Which statuses a server's door leads to.
use Rattle.std.proofs.Common.{[], ◌∷◌, Option, None, Some, Contains, lit<, refl}
use Rattle.un_gate.specs.declared.DoorEnd.{DoorEnd}
use Rattle.un_gate.specs.declared.DoorEnd.TheVariants.{Closed, Failed}
use Rattle.un_status.specs.Statuses.{door_status}

pub door_statuses : (end : Option DoorEnd) → Contains (0 ∷ 5 ∷ 7 ∷ []) (door_status end)
door_statuses (Some Closed) = (0, lit< tt, refl)
door_statuses (Some Failed) = (1, lit< tt, refl)
door_statuses None = (2, lit< tt, refl)
