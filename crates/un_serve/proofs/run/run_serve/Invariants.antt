use Rattle.std.proofs.Common.{[], ◌∷◌}
use Rattle.un_serve.proofs.run.run_serve.Given as goal

-- the log that was just made
abbrev pub ghosts-serve_network-J-LogName : goal.ghosts-serve_network-J-LogName
ghosts-serve_network-J-LogName g a = record { book = a.new_log.seen.book }

-- the network at the opening
abbrev pub ghosts-serve_network-J-BoardName : goal.ghosts-serve_network-J-BoardName
ghosts-serve_network-J-BoardName g a = record { opening = a.net ∷ [] }

-- the count of the door's faults at the opening
abbrev pub ghosts-serve_network-N-DoorCount : goal.ghosts-serve_network-N-DoorCount
ghosts-serve_network-N-DoorCount g a = record { count = g.D.Door.faults a.door.now }
