use Rattle.std.proofs.Common.{◌≡◌, ◌++◌, flat_map}
use Rattle.std.specs.List.{range_with_len}
use Rattle.un_defs.specs.Links.{ties_by}
use Rattle.un_star.specs.Links.{path_between_by}
use Rattle.un_star.proofs.links.add_paths_of.Given as goal

-- the paths to the terminals so far are added
abbrev pub invariant-loop-before : goal.invariant-loop-before
invariant-loop-before l =
    l.ties.items ≡ l.fn.ties.items ++ flat_map (λ b. flat_map (ties_by l.node) (path_between_by l.config l.number l.row l.node.port.number b)) (range_with_len 1 l.before)
