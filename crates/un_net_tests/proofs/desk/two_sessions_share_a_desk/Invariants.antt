use Rattle.std.proofs.Common.{[], ◌∷◌}
use Rattle.un_net_tests.proofs.desk.two_sessions_share_a_desk.Given as goal

-- the log that was just made
abbrev pub ghosts-share_a_desk-J-LogName : goal.ghosts-share_a_desk-J-LogName
ghosts-share_a_desk-J-LogName g a = record { book = a.new_log.seen.book }

-- the network at the opening
abbrev pub ghosts-share_a_desk-J-BoardName : goal.ghosts-share_a_desk-J-BoardName
ghosts-share_a_desk-J-BoardName g a = record { opening = a.state ∷ [] }
