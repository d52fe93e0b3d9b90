use Rattle.std.proofs.Common.{◌≡◌, ℕ, ◌<◌, true, length, Some}
use Rattle.std.specs.Prelude.{slice_get, Contains}
use Rattle.un_walk.specs.declared.found.Chord.{Chord}
use Rattle.un_walk.specs.Found.{nodes}
use Rattle.un_walk.specs.Traced.{chords}
use Rattle.un_loops.specs.Network.{is_passable, IsGraphOver}
use Rattle.un_loops.proofs.graph.graph_of.Given as goal

abbrev pub invariant-loop-chord : goal.invariant-loop-chord
invariant-loop-chord g l = record {
  over : IsGraphOver (g.G.Ground.stars_and_areas l.over) l.barriers l.found l.graph (length (nodes l.found));
  done : (i : ℕ) (c : Chord) → i < l.chord-index → slice_get (chords l.found) i ≡ Some c
      → is_passable (g.G.Ground.stars_and_areas l.over) l.barriers (nodes l.found) c.to ≡ true → Contains l.graph.names c.tie.now.name;
}
