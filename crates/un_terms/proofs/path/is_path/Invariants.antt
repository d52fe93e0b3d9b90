use Rattle.std.proofs.Common.{◌≡◌, [], map, take, drop}
use Rattle.un_terms.specs.Config.{pair_of, are_pairs}
use Rattle.un_terms.proofs.path.is_path.Given as goal

-- what is left to test are the pairs from here on, after those before
abbrev pub invariant-loop-i : goal.invariant-loop-i
invariant-loop-i l =
    are_pairs l.directional l.terminals [] (map pair_of l.path) ≡ are_pairs l.directional l.terminals (map pair_of (take l.i l.path)) (map pair_of (drop l.i l.path))
