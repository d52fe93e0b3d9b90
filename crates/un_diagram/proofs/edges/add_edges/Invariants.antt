use Rattle.std.proofs.Common.{take}
use Rattle.un_diagram.specs.Colours.{AddsEdges}
use Rattle.un_diagram.proofs.edges.add_edges.Given as goal

-- the edges to the ends so far
abbrev pub invariant-loop-end : goal.invariant-loop-end
invariant-loop-end g l =
    let G = g.G.Ground.stars_and_areas l._over in
    AddsEdges G l._ask l.nodes l.colours l.from (take l.end-index l.ends) l.fn.edges.items l.edges.items
