-- No refusal of an update is one of want of memory: that is told apart from all causes.
use Rattle.std.proofs.Common.{ℕ, nat_le, not, ◌&&◌, length, map, Bool, true, false, List, [], ◌∷◌, Option, None, Some, option_and_then, if◌then◌else◌}
use Rattle.std.specs.Option.{option_map}
use Rattle.un_conds.specs.Conditions.{Condition}
use Rattle.un_defs.specs.declared.port.Port.{Port}
use Rattle.un_defs.specs.declared.port.Node.{Node}
use Rattle.un_defs.specs.declared.assoc.Controller.{Controller}
use Rattle.un_defs.specs.declared.walk.Dirt.{Dirt}
use Rattle.un_defs.specs.declared.refusal.Refusal.{Refusal}
use Rattle.un_defs.specs.declared.refusal.Refusal.TheVariants.{Conflict, Disjoint, NoSuchSubnetwork, Full}
use Rattle.un_defs.specs.declared.refusal.Limit.TheVariants.{Subnetworks}
use Rattle.un_defs.specs.Features.{Features}
use Rattle.un_defs.specs.Ground.{Ground}
use Rattle.un_defs.specs.Reach.{dirt}
use Rattle.un_defs.specs.Refusing.{first_refusal}
use Rattle.un_defs.proofs.NoMemory.{IsOther, AreOther, first_other, other_where}
use Rattle.un_ask.specs.declared.stored.StoredSubnet.{StoredSubnet}
use Rattle.un_ask.specs.declared.typed.TypedAsk.{TypedAsk}
use Rattle.un_subnet.specs.Alone.{least_apart}
use Rattle.un_subnet.specs.Refusals.{dirt_refusal, is_foreign, conflict_with, controller_of, conflict_at, conflict_refusal, disjoint_refusal}
use Rattle.un_subnet.specs.Answer.{tier_of, subnet_of, walk_refusal, row_of}
use Rattle.un_subnet.specs.Outcome.{no_tier, has_controllers, has_row, most_rows, no_subnet, no_room, update_ask, Outcome, removes, stores, unless_refused, walk_outcome, update_outcome, outcome_refusal}

dirt_other : (met : Option Dirt) → IsOther (dirt_refusal met)
unfolding IsOther
dirt_other None = tt
dirt_other (Some d) = λ e. cc

conflict_at_other : (tier : ℕ) (subnet : List ℕ) (q : Port) (o : Option Controller) → IsOther (option_and_then (conflict_with tier subnet q) o)
unfolding IsOther
conflict_at_other tier subnet q None = tt
conflict_at_other tier subnet q (Some c) = other_where (is_foreign tier subnet c) (Conflict c.subnet q.feature q.number) (λ e. cc)

each_other : (G : Ground) (tier : ℕ) (subnet : List ℕ) (nodes : List Node) → AreOther (map (conflict_at G tier subnet) nodes)
unfolding AreOther
each_other G tier subnet [] = tt
each_other G tier subnet (n ∷ nodes) = (conflict_at_other tier subnet n.port (controller_of G n), each_other G tier subnet nodes)

disjoint_other : (allowed : Bool) (o : Option Port) → IsOther (if allowed then None else option_map (λ (q : Port). Disjoint q.feature q.number) o)
unfolding IsOther
disjoint_other true o = tt
disjoint_other false None = tt
disjoint_other false (Some q) = λ e. cc

pub walk_other : (G : Ground) (ask : TypedAsk) (reached : List Node) → IsOther (walk_refusal G ask reached)
unfolding AreOther
walk_other G ask reached =
    first_other
    (dirt_refusal (dirt G reached) ∷ conflict_refusal G (tier_of ask) (subnet_of ask) reached ∷ disjoint_refusal G ask.barriers ask.disjoint ask.starts reached ∷ []) (
      dirt_other (dirt G reached),
      (
        first_other (map (conflict_at G (tier_of ask) (subnet_of ask)) reached) (each_other G (tier_of ask) (subnet_of ask) reached),
        (disjoint_other ask.disjoint (least_apart G ask.barriers ask.starts reached), tt),
      ),
    )

-- ---- the caller's part

pub tier_other : (tier : Option ℕ) → IsOther (no_tier tier)
unfolding IsOther
tier_other None = λ e. cc
tier_other (Some tier) = tt

pub subnet_other : (F : Features) (rows : List StoredSubnet) (tier : ℕ) (subnet : List ℕ) → IsOther (no_subnet F rows tier subnet)
subnet_other F rows tier subnet = other_where (not (has_controllers F tier subnet) && not (has_row rows tier subnet)) NoSuchSubnetwork (λ e. cc)

pub room_other : (rows : List StoredSubnet) (tier : ℕ) (subnet : List ℕ) → IsOther (no_room rows tier subnet)
room_other rows tier subnet = other_where (not (has_row rows tier subnet) && nat_le most_rows (length rows)) (Full Subnetworks) (λ e. cc)

unless_other : (due : Option Refusal) (otherwise : Outcome) → IsOther due → IsOther (outcome_refusal otherwise) → IsOther (outcome_refusal (unless_refused due otherwise))
unless_other None otherwise cause rest = rest
unless_other (Some r) otherwise cause rest = cause

pub outcome_other : (G : Ground) (F : Features) (rows : List StoredSubnet) (barrier : Option (Condition ℕ)) (disjoint : Bool) (tier : Option ℕ) (subnet : List ℕ) (reached : List Node)
    → IsOther (outcome_refusal (update_outcome G F rows barrier disjoint tier subnet reached))
unfolding IsOther AreOther
outcome_other G F rows barrier disjoint None subnet reached = λ e. cc
outcome_other G F rows barrier disjoint (Some tier) subnet reached =
    unless_other (no_subnet F rows tier subnet)
    (if has_controllers F tier subnet then walk_outcome G rows tier subnet (update_ask F barrier disjoint tier subnet) reached else removes)
    (subnet_other F rows tier subnet) (by (has_controllers F tier subnet))
  where
    walked : (ask : TypedAsk) → IsOther (outcome_refusal (walk_outcome G rows tier subnet ask reached))
    walked ask = unless_other (first_refusal (walk_refusal G ask reached ∷ no_room rows tier subnet ∷ [])) (stores (row_of ask reached))
        (first_other (walk_refusal G ask reached ∷ no_room rows tier subnet ∷ []) (walk_other G ask reached, (room_other rows tier subnet, tt))) tt

    by : (some : Bool) → IsOther (outcome_refusal (if some then walk_outcome G rows tier subnet (update_ask F barrier disjoint tier subnet) reached else removes))
    by true = walked (update_ask F barrier disjoint tier subnet)
    by false = tt
