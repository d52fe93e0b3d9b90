-- The laws of updates and of the status of stored rows.
use Rattle.std.specs.Prelude.{◌≡◌, ◌≢◌, ◌↔◌, ℕ, Bool, List, map, Contains, Option, None, IsTrue}
use Rattle.std.specs.List.Sorted.{IsStrictlySortedBy}
use Rattle.un_geom.specs.declared.point.Point.{Point}
use Rattle.un_geom.specs.Places.{point_cmp}
use Rattle.un_conds.specs.Conditions.{Condition}
use Rattle.un_schema.specs.Catalog.{Catalog}
use Rattle.un_defs.specs.declared.port.Node.{Node}
use Rattle.un_defs.specs.declared.star.Star.{Star}
use Rattle.un_defs.specs.declared.walk.Mode.TheVariants.{Any}
use Rattle.un_defs.specs.declared.walk.Barriers.{Barriers}
use Rattle.un_defs.specs.Features.{Features, controllers_of}
use Rattle.un_defs.specs.Ground.{Ground, entry}
use Rattle.un_defs.specs.Reach.{IsReach, leads, dirt}
use Rattle.un_defs.specs.Sound.{IsSound}
use Rattle.un_ask.specs.declared.typed.TypedAsk.{TypedAsk}
use Rattle.un_ask.specs.declared.stored.StoredSubnet.{StoredSubnet}
use Rattle.un_subnet.specs.Starts.{controller_nodes}
use Rattle.un_subnet.specs.Alone.{least_start, reached_alone}
use Rattle.un_subnet.specs.Answer.{IsForUpdate, row_of, update_reply}
use Rattle.un_subnet.specs.Outcome.{has_controllers, update_ask, update_outcome}
use Rattle.un_subnet.specs.Changes.{IsMadeDirty, changes_at, is_made_dirty}

-- each controller of a subnetwork has a node from which it is walked
abbrev pub StartsLaw : Type 0
StartsLaw = (S : Catalog) (F : Features) (tier : ℕ) (subnet : List ℕ) → IsSound S F
    → map (λ n. n.port) (controller_nodes F tier subnet) ≡ map (λ c. c.port) (controllers_of F tier subnet)

-- of the nodes that walks from all starts reach, the list has those that walks from the least start reach
abbrev pub AloneLaw : Type 0
AloneLaw = (G : Ground) (B : Barriers) (starts reached : List Node) → IsReach (leads G B Any) starts reached
    → IsReach (leads G B Any) (least_start starts) (reached_alone G B starts reached)

-- the walk of a subnetwork that has controllers may be asked for
abbrev pub MayUpdateLaw : Type 0
MayUpdateLaw = (S : Catalog) (F : Features) (barrier : Option (Condition ℕ)) (disjoint : Bool) (tier : ℕ) (subnet : List ℕ) → IsSound S F
    → IsTrue (has_controllers F tier subnet) → IsForUpdate (update_ask F barrier disjoint tier subnet)

-- the points of a row that is to be stored are in order
abbrev pub RowPointsLaw : Type 0
RowPointsLaw = (ask : TypedAsk) (reached : List Node) → IsStrictlySortedBy point_cmp (row_of ask reached).points

-- ---- two grounds

-- they have the same areas, and, where these cover no reached node, the same entries at the reached nodes
pub record AreAlike (G H : Ground) (reached : List Node) : Type 0 where
  pub areas : G.areas ≡ H.areas
  pub entries : dirt G reached ≡ None → (n : Node) → Contains reached n → entry G n ≡ entry H n

-- then the reply is the same over both
abbrev pub SameReplyLaw : Type 0
SameReplyLaw = (G H : Ground) (ask : TypedAsk) (reached : List Node) → AreAlike G H reached → update_reply G ask reached ≡ update_reply H ask reached

-- and the outcome
abbrev pub SameOutcomeLaw : Type 0
SameOutcomeLaw = (G H : Ground) (F : Features) (rows : List StoredSubnet) (barrier : Option (Condition ℕ)) (disjoint : Bool) (tier : Option ℕ) (subnet : List ℕ) (reached : List Node)
    → AreAlike G H reached → update_outcome G F rows barrier disjoint tier subnet reached ≡ update_outcome H F rows barrier disjoint tier subnet reached

-- ---- the status of stored rows

-- each point whose star changes is in the list
abbrev pub HasChanges : (Point → Star) → (Point → Star) → List Point → Type 0
HasChanges before after looked = (p : Point) → before p ≢ after p → Contains looked p

-- by such a list the test tells whether the row becomes dirty
abbrev pub MadeDirtyLaw : Type 0
MadeDirtyLaw = (tier : ℕ) (subnet : List ℕ) (points looked : List Point) (before after : Point → Star) → HasChanges before after looked
    → IsTrue (is_made_dirty tier subnet points (changes_at before after looked)) ↔ IsMadeDirty tier subnet points before after

-- and it tells the same by any two such lists
abbrev pub SameDirtyLaw : Type 0
SameDirtyLaw = (tier : ℕ) (subnet : List ℕ) (points looked other : List Point) (before after : Point → Star)
    → HasChanges before after looked → HasChanges before after other
    → is_made_dirty tier subnet points (changes_at before after looked) ≡ is_made_dirty tier subnet points (changes_at before after other)
