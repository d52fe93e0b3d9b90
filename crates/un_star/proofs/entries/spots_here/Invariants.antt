use Rattle.std.proofs.Common.{◌≡◌, map, take}
use Rattle.un_star.specs.Entries.{spot_here}
use Rattle.un_star.proofs.entries.spots_here.Given as goal

-- the entries of the ports so far
abbrev pub invariant-loop-one : goal.invariant-loop-one
invariant-loop-one g l =
    l.spots.items ≡ map (λ s. spot_here (g.R.Rows.catalog l.rows) (g.R.Rows.features l.rows) l.meeting.at s.port s.row.now) (take l.one-index l.one-items)
