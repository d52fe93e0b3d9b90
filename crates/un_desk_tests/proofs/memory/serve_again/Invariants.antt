use Rattle.std.proofs.Common.{[], ◌∷◌}
use Rattle.un_desk_tests.proofs.memory.serve_again.Given as goal

-- the log that was just made
abbrev pub ghosts-serve-J-LogName : goal.ghosts-serve-J-LogName
ghosts-serve-J-LogName g a = record { book = a.new_log.seen.book }

-- the counter at the opening
abbrev pub ghosts-serve-J-BoardName : goal.ghosts-serve-J-BoardName
ghosts-serve-J-BoardName g a = record { opening = record { total = 0 } ∷ [] }
