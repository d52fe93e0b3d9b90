use Rattle.std.proofs.Common.{[], ◌∷◌}
use Rattle.un_net_tests.proofs.views.a_kept_view_stays_empty.Given as goal

-- the log that was just made
abbrev pub ghosts-keep_a_view-J-LogName : goal.ghosts-keep_a_view-J-LogName
ghosts-keep_a_view-J-LogName g a = record { book = a.new_log.seen.book }

-- the network at the opening
abbrev pub ghosts-keep_a_view-J-BoardName : goal.ghosts-keep_a_view-J-BoardName
ghosts-keep_a_view-J-BoardName g a = record { opening = a.state ∷ [] }
