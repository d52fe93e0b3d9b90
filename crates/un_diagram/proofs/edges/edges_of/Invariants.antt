use Rattle.std.proofs.Common.{◌↔◌}
use Rattle.std.specs.Prelude.{Contains}
use Rattle.un_ask.specs.declared.results.Edge.{Edge}
use Rattle.un_diagram.specs.Colours.{IsEdgeBelow}
use Rattle.un_diagram.proofs.edges.edges_of.Given as goal

-- the edges of kept nodes at the places so far
abbrev pub invariant-loop-from : goal.invariant-loop-from
invariant-loop-from g l =
    let G = g.G.Ground.stars_and_areas l.over in
    (e : Edge) → Contains l.edges.items e ↔ IsEdgeBelow G l.ask l.nodes l.colours l.from e
