-- The reached nodes by their places, where links lead, and what becomes of each.
use Rattle.std.specs.Prelude.{◌≡◌, ℕ, Bool, false, ◌||◌, if◌then◌else◌, List, length, Contains, Option, Some, None, slice_get, IsTrue}
use Rattle.std.specs.List.{list_any}
use Rattle.std.specs.List.Sorted.{IsStrictlySortedBy}
use Rattle.std.specs.Option.{option_map_or}
use Rattle.un_defs.specs.declared.port.Port.{Port}
use Rattle.un_defs.specs.declared.port.Node.{Node}
use Rattle.un_defs.specs.declared.walk.Mode.TheVariants.{Any}
use Rattle.un_defs.specs.declared.walk.Barriers.{Barriers}
use Rattle.un_defs.specs.declared.link.Tie.{Tie}
use Rattle.un_defs.specs.Orders.{node_cmp, same_node}
use Rattle.un_defs.specs.Ground.{Ground, is_dirty}
use Rattle.un_defs.specs.Linked.{AreLinked}
use Rattle.un_defs.specs.Reach.{leads, is_open}
use Rattle.un_walk.specs.declared.seen.Seen.{Seen}
use Rattle.un_walk.specs.Seen.{spot_of, nodes_of, is_barrier_by, HaveEntries}
use Rattle.un_ask.specs.declared.typed.DiagramAsk.{DiagramAsk}
use Rattle.un_diagram.specs.declared.roles.Role.{Role}
use Rattle.un_diagram.specs.declared.roles.Role.TheVariants.{Kept, Collapsed, Shut}
use Rattle.un_diagram.specs.Diagram.{meets, is_chosen}

-- the node stands at the place
abbrev pub IsAt : List Node → ℕ → Node → Type 0
IsAt nodes i n = slice_get nodes i ≡ Some n

-- nodes in order, linked as a diagram needs it, that no step leaves
pub record IsNetwork (G : Ground) (B : Barriers) (nodes : List Node) : Type 0 where
  pub rising : IsStrictlySortedBy node_cmp nodes
  pub closed : (n m : Node) → Contains nodes n → IsTrue (leads G B Any n m) → Contains nodes m
  pub linked : AreLinked G nodes
  pub untiered : B.tier ≡ None

-- the nodes that walks reach over ground without dirt, with their entries
pub record AreReached (G : Ground) (B : Barriers) (seen : List Seen) (nodes : List Node) : Type 0 where
  pub net : IsNetwork G B nodes
  pub are : nodes_of seen ≡ nodes
  pub entries : HaveEntries G seen
  pub clean : (n : Node) → Contains nodes n → is_dirty G n.at ≡ false

-- the place is that of the end of a link
pub record IsEndBy (nodes : List Node) (ties : List Tie) (j : ℕ) : Type 0 where
  pub tie : Tie
  pub among : Contains ties tie
  pub at : IsAt nodes j tie.to

-- exactly the places to which a step from the node leads
pub record AreEnds (G : Ground) (B : Barriers) (nodes : List Node) (n : Node) (ends : List ℕ) : Type 0 where
  pub sound : (j : ℕ) → Contains ends j → (m : Node) × IsAt nodes j m × IsTrue (leads G B Any n m)
  pub whole : (j : ℕ) (m : Node) → IsAt nodes j m → IsTrue (leads G B Any n m) → Contains ends j

-- ---- what becomes of nodes, by the entries that were looked up, and by the ground

abbrev pub is_chosen_by : DiagramAsk → Seen → Bool
is_chosen_by ask v = option_map_or (meets ask.keep) (spot_of v) false || list_any (same_node v.node) ask.starts

abbrev pub role_by : DiagramAsk → Seen → Role
role_by ask v = if is_barrier_by ask.barriers v then Shut else (if is_chosen_by ask v then Kept else Collapsed)

abbrev pub role_of : Ground → DiagramAsk → Node → Role
role_of G ask n = if is_open G ask.barriers n then (if is_chosen G ask n then Kept else Collapsed) else Shut

-- the roles of the nodes, in order
pub record AreRoles (G : Ground) (ask : DiagramAsk) (nodes : List Node) (roles : List Role) : Type 0 where
  pub count : length roles ≡ length nodes
  pub are : (i : ℕ) (n : Node) → IsAt nodes i n → slice_get roles i ≡ Some (role_of G ask n)

abbrev pub port_if_kept : Node → Role → Option Port
port_if_kept n Kept = Some n.port
port_if_kept n Collapsed = None
port_if_kept n Shut = None
