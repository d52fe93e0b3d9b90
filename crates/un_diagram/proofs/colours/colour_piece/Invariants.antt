use Rattle.std.proofs.Common.{◌≤◌, ◌-◌, ◌^◌, length}
use Rattle.un_diagram.specs.Colours.{IsSpread}
use Rattle.un_diagram.proofs.colours.colour_piece.Given as goal

-- the places before the next have been gone on from
abbrev pub invariant-loop-next : goal.invariant-loop-next
invariant-loop-next g l =
    let G = g.G.Ground.stars_and_areas l.over in
    record {
      within : l.next ≤ length l.members.items;
      spread : IsSpread G l.ask l.nodes l.first l.fn.colours l.colours l.members.items l.next;
    }

abbrev pub decreases-loop-next : goal.decreases-loop-next
decreases-loop-next g l = 2 ^ 64 - l.next
