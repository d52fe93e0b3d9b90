-- Which isolating devices have to be shut so that no walk from the starts comes to a controller of the tier.
use Rattle.std.specs.Prelude.{◌≡◌, ◌⊎◌, ℕ, ◌↔◌, Bool, false, not, ◌&&◌, List, ◌∷◌, ◌++◌, map, filter, Contains, Option, IsTrue, IsFalse}
use Rattle.std.specs.Ordering.{is_le}
use Rattle.std.specs.List.Sorted.{IsStrictlySortedBy}
use Rattle.std.specs.Option.{option_map_or}
use Rattle.un_conds.specs.Conditions.{Condition, holds}
use Rattle.un_schema.specs.Catalog.{Catalog, cats_of}
use Rattle.un_defs.specs.declared.port.Port.{Port}
use Rattle.un_defs.specs.declared.port.Node.{Node}
use Rattle.un_defs.specs.declared.row.Row.{Row}
use Rattle.un_defs.specs.declared.walk.Mode.TheVariants.{Any}
use Rattle.un_defs.specs.declared.walk.Barriers.{Barriers}
use Rattle.un_defs.specs.declared.star.Spot.{Spot}
use Rattle.un_defs.specs.Orders.{port_cmp}
use Rattle.un_defs.specs.Links.{is_device}
use Rattle.un_defs.specs.Ground.{Ground, entry}
use Rattle.un_defs.specs.Reach.{Walk, IsReach, leads, controls}

-- what is asked: over this ground and from these starts, with the condition that isolating devices meet. The tier stands with the barriers.
pub record Isolation : Type 0 where
  pub over : Ground
  pub barriers : Barriers
  pub isolators : Option (Condition ℕ)
  pub starts : List Node

-- ---- isolating ports and controllers

-- a device that meets the condition isolates
abbrev pub isolates : Option (Condition ℕ) → Spot → Bool
isolates isolators s = is_device s.class && option_map_or (λ c. holds c s.attrs s.cats.0) isolators false

-- a node with such an entry
abbrev pub is_isolating : Isolation → Node → Bool
is_isolating I n = option_map_or (isolates I.isolators) (entry I.over n) false

-- a row whose ports isolate
abbrev pub row_isolates : Catalog → Option (Condition ℕ) → Row → Bool
row_isolates S isolators r = is_device r.class && option_map_or (λ c. holds c r.attrs (cats_of S r.kind).0) isolators false

-- a controller of the tier sits at the node
abbrev pub is_controlled : Isolation → Node → Bool
is_controlled I n = option_map_or (λ tier. controls I.over tier n) I.barriers.tier false

-- ---- the inner nodes and the border

-- a walk goes from one node to the next
abbrev pub goes : Isolation → Node → Node → Bool
goes I = leads I.over I.barriers Any

-- the same between nodes that do not isolate
abbrev pub goes_inside : Isolation → Node → Node → Bool
goes_inside I n m = not (is_isolating I n) && not (is_isolating I m) && goes I n m

-- the starts that do not isolate
abbrev pub inner_starts : Isolation → List Node
inner_starts I = filter (λ n. not (is_isolating I n)) I.starts

-- an inner node: a walk that meets no isolating port ends in it
abbrev pub IsInner : Isolation → Node → Type 0
IsInner I = Walk (goes_inside I) (inner_starts I)

-- a node of the border: it isolates, and a walk goes to it from an inner node
pub record IsBorder (I : Isolation) (n : Node) : Type 0 where
  pub from : Node
  pub inner : IsInner I from
  pub linked : IsTrue (goes I from n)
  pub isolating : IsTrue (is_isolating I n)

-- a port of the border
pub record IsBorderPort (I : Isolation) (q : Port) : Type 0 where
  pub node : Node
  pub border : IsBorder I node
  pub port : node.port ≡ q

-- ---- what stands in the way

-- a controller of the tier sits on this port of an inner node or of the border
pub record IsInTheWay (I : Isolation) (q : Port) : Type 0 where
  pub node : Node
  pub place : IsInner I node ⊎ IsBorder I node
  pub controlled : IsTrue (is_controlled I node)
  pub port : node.port ≡ q

-- the least such port
pub record IsFirstInTheWay (I : Isolation) (q : Port) : Type 0 where
  pub one : IsInTheWay I q
  pub least : (r : Port) → IsInTheWay I r → IsTrue (is_le (port_cmp q r))

-- there is none
abbrev pub IsIsolable : Isolation → Type 0
IsIsolable I = (q : Port) → ¬ IsInTheWay I q

-- ---- the needed ports

-- the ports of a walk's nodes
abbrev pub ports_on : {step : Node → Node → Bool} {starts : List Node} {n : Node} → Walk step starts n → List Port
ports_on w = map (λ m. m.port) (w.first ∷ w.rest)

-- a port of the border that is needed: some walk to a controller of the tier has it as its only port of the border
pub record IsNeeded (I : Isolation) (b : Port) : Type 0 where
  pub border : IsBorderPort I b
  pub end : Node
  pub controlled : IsTrue (is_controlled I end)
  pub walk : Walk (goes I) I.starts end
  pub passed : Contains (ports_on walk) b
  pub alone : (q : Port) → Contains (ports_on walk) q → IsBorderPort I q → q ≡ b

-- the list has exactly the needed ports, rising
pub record AreNeeded (I : Isolation) (ports : List Port) : Type 0 where
  pub rising : IsStrictlySortedBy port_cmp ports
  pub exact : (q : Port) → Contains ports q ↔ IsNeeded I q

-- ---- with ports shut

-- the same, where these ports are not open
abbrev pub shut : Isolation → List Port → Isolation
shut I ports = record I { barriers = record I.barriers { stops = I.barriers.stops ++ ports } }

-- no walk comes to a controller of the tier once the ports are shut
abbrev pub Separates : Isolation → List Port → Type 0
Separates I ports = (n : Node) → Walk (goes (shut I ports)) I.starts n → IsFalse (is_controlled I n)

-- the part that is cut off: all that walks reach once the ports are shut, barriers and these ports with it
abbrev pub IsPart : Isolation → List Port → List Node → Type 0
IsPart I ports = IsReach (goes (shut I ports)) I.starts

-- no start isolates
abbrev pub StartsAreClear : Isolation → Type 0
StartsAreClear I = (n : Node) → Contains I.starts n → IsFalse (is_isolating I n)
