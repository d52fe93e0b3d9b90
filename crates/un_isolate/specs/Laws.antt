-- What the needed ports of an isolation are good for, and what the lists are, as statements.
use Rattle.std.specs.Prelude.{◌≡◌, ℕ, ◌↔◌, List, Contains, Option, Some, None, IsFalse}
use Rattle.un_geom.specs.Rectangle.{Rectangle}
use Rattle.un_conds.specs.Conditions.{Condition}
use Rattle.un_schema.specs.Catalog.{Catalog}
use Rattle.un_defs.specs.declared.port.Port.{Port}
use Rattle.un_defs.specs.declared.port.Node.{Node}
use Rattle.un_defs.specs.declared.row.Row.{Row}
use Rattle.un_defs.specs.declared.walk.Barriers.{Barriers}
use Rattle.un_defs.specs.Features.{Features, row}
use Rattle.un_defs.specs.Ports.{nodes}
use Rattle.un_defs.specs.Sound.{IsSound}
use Rattle.un_defs.specs.Ground.{Ground, entry, fresh_ground, is_dirty}
use Rattle.un_defs.specs.Reach.{IsReach, dirt}
use Rattle.un_defs.specs.Laws.{IsCovered}
use Rattle.un_defs.specs.Linked.{HaveOwnPorts}
use Rattle.un_ask.specs.declared.typed.TypedAsk.{TypedAsk}
use Rattle.un_isolate.specs.Isolation.{Isolation, goes, goes_inside, inner_starts, IsBorder, IsBorderPort, IsFirstInTheWay, IsIsolable, IsNeeded, AreNeeded, Separates, IsPart, StartsAreClear, is_isolating, row_isolates}
use Rattle.un_isolate.specs.IsolationList.{inner_nodes, border_nodes, first_in_the_way, needed_ports, part_behind}
use Rattle.un_isolate.specs.Answer.{IsReachOf, isolation_reply}

-- the list of needed ports separates, where no start isolates, no two reached nodes have one port, and no controller stands in the way
abbrev pub SeparationLaw : Type 0
SeparationLaw = (I : Isolation) (reached : List Node) (needed : List Port) → IsReach (goes I) I.starts reached
    → HaveOwnPorts reached → StartsAreClear I → IsIsolable I → AreNeeded I needed → Separates I needed

-- each set of ports of the border that separates has each needed port
abbrev pub LeastLaw : Type 0
LeastLaw = (I : Isolation) (ports : List Port) → ((q : Port) → Contains ports q → IsBorderPort I q) → Separates I ports
    → (b : Port) → IsNeeded I b → Contains ports b

-- of the nodes that walks reach, the list has exactly the inner ones, rising
abbrev pub InnerListLaw : Type 0
InnerListLaw = (I : Isolation) (reached : List Node) → IsReach (goes I) I.starts reached → IsReach (goes_inside I) (inner_starts I) (inner_nodes I reached)

-- it has exactly those of the border
abbrev pub BorderListLaw : Type 0
BorderListLaw = (I : Isolation) (reached : List Node) → IsReach (goes I) I.starts reached
    → (n : Node) → Contains (border_nodes I reached) n ↔ IsBorder I n

-- the port that is named is the first that stands in the way, and where none is named none stands there
abbrev pub FirstInTheWayLaw : Type 0
FirstInTheWayLaw = (I : Isolation) (reached : List Node) → IsReach (goes I) I.starts reached
    → ((q : Port) → (first_in_the_way I reached ≡ Some q) ↔ IsFirstInTheWay I q) × ((first_in_the_way I reached ≡ None) ↔ IsIsolable I)

-- the list has exactly the needed ports
abbrev pub NeededListLaw : Type 0
NeededListLaw = (I : Isolation) (reached : List Node) → IsReach (goes I) I.starts reached → HaveOwnPorts reached → StartsAreClear I → IsIsolable I
    → AreNeeded I (needed_ports I reached)

-- with any ports shut the list has exactly what is cut off
abbrev pub PartListLaw : Type 0
PartListLaw = (I : Isolation) (reached : List Node) → IsReach (goes I) I.starts reached
    → (ports : List Port) → IsPart I ports (part_behind I reached ports)

-- over two grounds with the same areas, and the same entries at the reached nodes where these are clean, the reply is one
abbrev pub SameIsolationLaw : Type 0
SameIsolationLaw = (G H : Ground) (ask : TypedAsk) (reached : List Node) → G.areas ≡ H.areas → IsReachOf G ask reached
    → (dirt G reached ≡ None → (n : Node) → Contains reached n → entry G n ≡ entry H n)
    → isolation_reply G ask reached ≡ isolation_reply H ask reached

-- over all features a node of a row isolates exactly where the row does
abbrev pub IsolatingRowsLaw : Type 0
IsolatingRowsLaw = (S : Catalog) (F : Features) (areas : List (ℕ × Rectangle)) (B : Barriers) (isolators : Option (Condition ℕ)) (starts : List Node)
    → IsSound S F → (n : Node) → Contains (nodes F) n → (r : Row) → row F n.port.feature ≡ Some r
    → is_isolating (record { over = fresh_ground S F areas; barriers = B; isolators = isolators; starts = starts }) n ≡ row_isolates S isolators r

-- over kept ground no start isolates where none is dirty and no start's row isolates
abbrev pub ClearStartsLaw : Type 0
ClearStartsLaw = (S : Catalog) (F : Features) (G : Ground) (B : Barriers) (isolators : Option (Condition ℕ)) (starts : List Node)
    → IsSound S F → IsCovered S F G → ((n : Node) → Contains starts n → Contains (nodes F) n) → ((n : Node) → Contains starts n → IsFalse (is_dirty G n.at))
    → ((n : Node) → Contains starts n → (r : Row) → row F n.port.feature ≡ Some r → IsFalse (row_isolates S isolators r))
    → StartsAreClear (record { over = G; barriers = B; isolators = isolators; starts = starts })
