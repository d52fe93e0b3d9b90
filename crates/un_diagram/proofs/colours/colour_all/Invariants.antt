use Rattle.un_diagram.specs.Colours.{AreColoured, ArePieces}
use Rattle.un_diagram.proofs.colours.colour_all.Given as goal

-- the pieces whose first place is below this one
abbrev pub invariant-loop-first : goal.invariant-loop-first
invariant-loop-first g l =
    let G = g.G.Ground.stars_and_areas l.over in
    record {
      colours : AreColoured G l.ask l.nodes l.colours l.first;
      pieces : ArePieces G l.ask l.nodes l.colours l.first l.pieces.items;
    }
