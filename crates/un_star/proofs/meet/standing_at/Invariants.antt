use Rattle.std.proofs.Common.{◌≡◌, flat_map, option_to_list, take}
use Rattle.un_star.specs.Meet.{pairs_of, stander}
use Rattle.un_star.proofs.meet.standing_at.Given as goal

-- the ports so far that have a row, with their rows
abbrev pub invariant-loop-port : goal.invariant-loop-port
invariant-loop-port g l =
    pairs_of l.standing.items ≡ flat_map (λ q. option_to_list (stander (g.R.Rows.features l.rows) q)) (take l.port-index l.ports)
