use Rattle.std.proofs.Common.{◌≡◌, length, map, take}
use Rattle.un_terms.specs.Config.{pair_of, paths_of, AreEnds}
use Rattle.un_schema.proofs.configs.pairs_and_ends.Given as goal

-- the paths so far, each in its part of the pairs
abbrev pub invariant-loop-path : goal.invariant-loop-path
invariant-loop-path l = record {
  paths : paths_of 0 l.pairs.items l.ends.items ≡ map (λ path. map pair_of path.pairs) (take l.path-index l.paths);
  ends : AreEnds 0 (length l.pairs.items) l.ends.items;
  len : length l.ends.items ≡ l.path-index;
}
