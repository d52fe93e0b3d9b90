-- Which ports stand at a point, as a list of points with their ports.
use Rattle.std.specs.Prelude.{◌≡◌, ◌≢◌, ◌==◌, ℕ, List, [], ◌++◌, map, filter, not, All, AllPairs, Some, unwrap_or}
use Rattle.std.specs.List.{list_any}
use Rattle.std.specs.List.Sorted.{IsStrictlySortedBy}
use Rattle.std.specs.Map.{values_of}
use Rattle.un_geom.specs.declared.point.Point.{Point}
use Rattle.un_points.specs.PointMaps.{value_at}
use Rattle.un_defs.specs.declared.port.Port.{Port}
use Rattle.un_defs.specs.declared.port.Node.{Node}
use Rattle.un_defs.specs.declared.row.Row.{Row}
use Rattle.un_defs.specs.Features.{Features, row}
use Rattle.un_defs.specs.Orders.{rising, port_cmp, same_port}
use Rattle.un_defs.specs.Change.{add_row, change_row}
use Rattle.un_defs.specs.Ports.{nodes_of, standing_at, ports}

-- the ports at a point; none where the list has not the point
abbrev pub ports_in : List (Point × List Port) → Point → List Port
ports_in grid p = unwrap_or (value_at p grid) []

-- something stands at each point of the list, and its ports rise
pub record IsGrid (grid : List (Point × List Port)) : Type 0 where
  pub standing : All (λ ports. ports ≢ []) (values_of grid)
  pub rising : All (IsStrictlySortedBy port_cmp) (values_of grid)

-- the ports at the point of some nodes
abbrev pub standing : List Node → Point → List Port
standing nodes p = map (λ n. n.port) (standing_at p nodes)

-- a list of ports without some of them
abbrev pub without_ports : List Port → List Port → List Port
without_ports here gone = filter (λ q. not (list_any (same_port q) gone)) here

-- the grid has the ports of these nodes besides its own
abbrev pub HasNodes : List (Point × List Port) → List Node → List (Point × List Port) → Type 0
HasNodes old nodes new = (p : Point) → ports_in new p ≡ rising port_cmp (ports_in old p ++ standing nodes p)

-- the grid has the ports of the row besides its own
abbrev pub HasRow : List (Point × List Port) → List (Point × List Port) → Row → Type 0
HasRow old new r = HasNodes old (nodes_of r) new

-- the grid has all its ports but those of these nodes
abbrev pub LacksNodes : List (Point × List Port) → List Node → List (Point × List Port) → Type 0
LacksNodes old nodes new = (p : Point) → ports_in new p ≡ without_ports (ports_in old p) (standing nodes p)

-- the grid has all its ports but those of the row
abbrev pub LacksRow : List (Point × List Port) → List (Point × List Port) → Row → Type 0
LacksRow old new r = LacksNodes old (nodes_of r) new

-- the grid has the ports of the second row in place of those of the first
abbrev pub HasInPlace : List (Point × List Port) → List (Point × List Port) → Row → Row → Type 0
HasInPlace old new r s = (p : Point) → ports_in new p ≡ rising port_cmp (without_ports (ports_in old p) (standing (nodes_of r) p) ++ standing (nodes_of s) p)

-- the features without the row of this id
abbrev pub without_row : Features → ℕ → Features
without_row F id = record F { rows = filter (λ r. not (r.id == id)) F.rows }

-- the grid tells the ports of all features
abbrev pub IsGridOf : List (Point × List Port) → Features → Type 0
IsGridOf grid F = (p : Point) → ports_in grid p ≡ ports F p

-- a grid to which a row was added holds the ports of all features, this row included
abbrev pub InsertLaw : Type 0
InsertLaw = (old new : List (Point × List Port)) (F : Features) (r : Row) → IsGridOf old F → HasRow old new r → IsGridOf new (add_row F r)

-- a grid from which a row was removed holds the ports of all other features
abbrev pub RemoveLaw : Type 0
RemoveLaw = (old new : List (Point × List Port)) (F : Features) (r : Row) →
    AllPairs (λ r s. r.id ≢ s.id) F.rows → row F r.id ≡ Some r → IsGridOf old F → LacksRow old new r → IsGridOf new (without_row F r.id)

-- a grid in which a row was replaced holds the ports of all features, with the row as it is now
abbrev pub ReplaceLaw : Type 0
ReplaceLaw = (old new : List (Point × List Port)) (F : Features) (r : Row) (change : Row → Row) →
    AllPairs (λ r s. r.id ≢ s.id) F.rows → row F r.id ≡ Some r → (change r).id ≡ r.id → IsGridOf old F → HasInPlace old new r (change r)
    → IsGridOf new (change_row F r.id change)

-- a change that moves no port of any row leaves the grid one of all features
abbrev pub StayLaw : Type 0
StayLaw = (grid : List (Point × List Port)) (F : Features) (id : ℕ) (change : Row → Row) →
    ((r : Row) → nodes_of (change r) ≡ nodes_of r) → IsGridOf grid F → IsGridOf grid (change_row F id change)
