use Rattle.std.proofs.Common.{◌≡◌, length, drop}
use Rattle.un_terms.specs.Config.{bad_path, bad_path_from, paths_of, AreEnds}
use Rattle.un_terms.proofs.path.first_bad.Given as goal

-- the first bad path is among those from here on, of which the first begins at `from`
abbrev pub invariant-loop-i : goal.invariant-loop-i
invariant-loop-i l = record {
  ends : AreEnds l.from (length l.pairs) (drop l.i l.ends);
  first : bad_path l.directional l.terminals (paths_of 0 l.pairs l.ends) ≡ bad_path_from l.i l.directional l.terminals (paths_of l.from l.pairs (drop l.i l.ends));
}
