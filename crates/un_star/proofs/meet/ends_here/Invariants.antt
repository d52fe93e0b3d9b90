use Rattle.std.proofs.Common.{◌≡◌, flat_map, option_to_list, take}
use Rattle.un_star.specs.Meet.{end_here}
use Rattle.un_star.proofs.meet.ends_here.Given as goal

-- the ends that the ports so far are
abbrev pub invariant-loop-one : goal.invariant-loop-one
invariant-loop-one g l =
    l.ends.items ≡ flat_map (λ s. option_to_list (end_here (g.R.Rows.catalog l.rows) (g.R.Rows.features l.rows) l.p s.port)) (take l.one-index l.standing)
