use Rattle.std.proofs.Common.{[], ◌∷◌}
use Rattle.un_rows.proofs.links.serve.Given as goal

-- the log that was just made
abbrev pub ghosts-serve_at-J-LogName : goal.ghosts-serve_at-J-LogName
ghosts-serve_at-J-LogName g a = record { book = a.new_log.seen.book }

-- the network at the opening
abbrev pub ghosts-serve_at-J-BoardName : goal.ghosts-serve_at-J-BoardName
ghosts-serve_at-J-BoardName g a = record { opening = a.net ∷ [] }
