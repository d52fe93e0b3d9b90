-- What the update of a subnetwork answers of the nodes that its walk reached.
use Rattle.std.specs.Prelude.{◌≡◌, ℕ, ◌≤◌, List, [], ◌∷◌, map, length, Option, Some, None, IsSome, IsTrue, unwrap_or}
use Rattle.std.specs.Option.{option_map_or}
use Rattle.un_geom.specs.Places.{point_cmp}
use Rattle.un_defs.specs.declared.port.Node.{Node}
use Rattle.un_defs.specs.declared.walk.Mode.TheVariants.{Any}
use Rattle.un_defs.specs.declared.refusal.Refusal.{Refusal}
use Rattle.un_defs.specs.Orders.{rising, port_cmp}
use Rattle.un_defs.specs.Ground.{Ground}
use Rattle.un_defs.specs.Reach.{IsReach, leads, dirt}
use Rattle.un_defs.specs.Refusing.{first_refusal}
use Rattle.un_defs.specs.Result.{feature_ids}
use Rattle.un_walk.specs.Ticks.{IsLookedUpOnce}
use Rattle.un_ask.specs.declared.typed.TypedAsk.{TypedAsk}
use Rattle.un_ask.specs.declared.stored.StoredSubnet.{StoredSubnet}
use Rattle.un_ask.specs.declared.stored.Status.TheVariants.{Clean}
use Rattle.un_ask.specs.declared.reply.Reply.{Reply}
use Rattle.un_ask.specs.declared.reply.Reply.TheVariants.{Updated, Refused}
use Rattle.un_subnet.specs.Refusals.{dirt_refusal, conflict_refusal, disjoint_refusal}

-- the nodes in which a walk of the update ends
abbrev pub IsReachOf : Ground → TypedAsk → List Node → Type 0
IsReachOf G ask = IsReach (leads G ask.barriers Any) ask.starts

-- what holds of the count of the nodes that the update reaches, where no star is looked up twice
abbrev pub OnReachCount : Ground → TypedAsk → (ℕ → Type 0) → Type 0
OnReachCount G ask P = (reached : List Node) → IsReachOf G ask reached → IsLookedUpOnce G ask.barriers → P (length reached)

-- an update has a tier, a name and a controller, and it is consistent
pub record IsForUpdate (ask : TypedAsk) : Type 0 where
  pub tier : IsSome ask.barriers.tier
  pub subnet : IsSome ask.subnet
  pub consistent : IsTrue ask.barriers.consistent
  pub starts : 1 ≤ length ask.starts

abbrev pub tier_of : TypedAsk → ℕ
tier_of ask = unwrap_or ask.barriers.tier 0

abbrev pub subnet_of : TypedAsk → List ℕ
subnet_of ask = unwrap_or ask.subnet []

-- why it is refused: a dirty area, then a controller of another subnetwork, then controllers that do not reach one another
abbrev pub walk_refusal : Ground → TypedAsk → List Node → Option Refusal
walk_refusal G ask reached = first_refusal
    (dirt_refusal (dirt G reached)
    ∷ conflict_refusal G (tier_of ask) (subnet_of ask) reached
    ∷ disjoint_refusal G ask.barriers ask.disjoint ask.starts reached
    ∷ [])

-- what is stored: the controllers, the reached features, barriers too, and the reached points, each rising. The caller puts in the version.
abbrev pub row_of : TypedAsk → List Node → StoredSubnet
row_of ask reached = record {
  tier = tier_of ask;
  subnet = subnet_of ask;
  controllers = rising port_cmp (map (λ n. n.port) ask.starts);
  members = feature_ids reached;
  points = rising point_cmp (map (λ n. n.at) reached);
  updated = 0;
  status = Clean;
}

-- the reply to an update that reached these nodes
abbrev pub update_reply : Ground → TypedAsk → List Node → Reply
update_reply G ask reached = option_map_or (λ r. Refused r None 0) (walk_refusal G ask reached) (Updated (Some (row_of ask reached)) 0)

-- the reply is that to the nodes in which a walk of the update ends
pub record IsAnswer (G : Ground) (ask : TypedAsk) (reply : Reply) : Type 0 where
  pub reached : List Node
  pub reach : IsReachOf G ask reached
  pub is : reply ≡ update_reply G ask reached
