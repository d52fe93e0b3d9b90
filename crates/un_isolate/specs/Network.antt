-- The graph of the reached nodes, and what isolation asks of each of them.
use Rattle.std.specs.Prelude.{◌≡◌, ◌↔◌, ℕ, Bool, List, ◌++◌, length, map, None, Some, slice_get, IsTrue}
use Rattle.std.specs.List.{list_any}
use Rattle.un_defs.specs.declared.port.Node.{Node}
use Rattle.un_defs.specs.Orders.{same_port}
use Rattle.un_defs.specs.Reach.{IsReach}
use Rattle.un_defs.specs.Linked.{HaveOwnPorts}
use Rattle.un_isolate.specs.declared.network.Network.{Network}
use Rattle.un_isolate.specs.Isolation.{Isolation, is_isolating, is_controlled, goes, StartsAreClear}
use Rattle.un_isolate.specs.IsolationList.{has_node, inner_nodes, border_nodes, first_in_the_way, needed_ports}
use Rattle.un_isolate.specs.Links.{HasLink, LeadInside}

-- a walk goes from the node at the first place to the node at the second
abbrev pub GoesBetween : Isolation → List Node → ℕ → ℕ → Type 0
GoesBetween I reached i j = (n : Node) × (m : Node) × (slice_get reached i ≡ Some n) × (slice_get reached j ≡ Some m) × IsTrue (goes I n m)

-- each place has marks, and links lead to places
pub record IsWhole (network : Network) : Type 0 where
  pub starts : length network.starts.items ≡ length network.onward.items
  pub isolating : length network.isolating.items ≡ length network.onward.items
  pub controlled : length network.controlled.items ≡ length network.onward.items
  pub inside : LeadInside network.onward.items

-- the places are those of the reached nodes
pub record IsNetworkOf (I : Isolation) (reached : List Node) (network : Network) : Type 0 where
  pub whole : IsWhole network
  pub starts : network.starts.items ≡ map (has_node I.starts) reached
  pub isolating : network.isolating.items ≡ map (is_isolating I) reached
  pub controlled : network.controlled.items ≡ map (is_controlled I) reached
  pub count : length network.onward.items ≡ length reached
  pub exact : (i j : ℕ) → HasLink network.onward.items i j ↔ GoesBetween I reached i j

-- what the parts of an isolation need of the reached nodes
pub record IsBasis (I : Isolation) (reached : List Node) : Type 0 where
  pub reach : IsReach (goes I) I.starts reached
  pub own_ports : HaveOwnPorts reached
  pub clear : StartsAreClear I

-- the marks are on the inner nodes and on the border
abbrev pub AreZoneMarks : Isolation → List Node → List Bool → Type 0
AreZoneMarks I reached zone = zone ≡ map (has_node (inner_nodes I reached ++ border_nodes I reached)) reached

-- no controller stands in the way there
pub record IsUnblocked (I : Isolation) (reached : List Node) (network : Network) (zone : List Bool) : Type 0 where
  pub graph : IsNetworkOf I reached network
  pub basis : IsBasis I reached
  pub marks : AreZoneMarks I reached zone
  pub free : first_in_the_way I reached ≡ None

-- the marks are on the nodes with needed ports
abbrev pub AreNeededMarks : Isolation → List Node → List Bool → Type 0
AreNeededMarks I reached needed = needed ≡ map (λ n. list_any (same_port n.port) (needed_ports I reached)) reached
