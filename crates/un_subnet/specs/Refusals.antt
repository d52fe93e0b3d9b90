-- Why the update of a subnetwork is refused for what its walk reached.
use Rattle.std.specs.Prelude.{ℕ, ◌==◌, Bool, not, ◌&&◌, List, map, Option, None, option_and_then, if◌then◌else◌}
use Rattle.std.specs.Option.{option_map}
use Rattle.un_conds.specs.Names.{same_text}
use Rattle.un_defs.specs.declared.port.Port.{Port}
use Rattle.un_defs.specs.declared.port.Node.{Node}
use Rattle.un_defs.specs.declared.assoc.Controller.{Controller}
use Rattle.un_defs.specs.declared.walk.Barriers.{Barriers}
use Rattle.un_defs.specs.declared.walk.Dirt.{Dirt}
use Rattle.un_defs.specs.declared.refusal.Refusal.{Refusal}
use Rattle.un_defs.specs.declared.refusal.Refusal.TheVariants.{DirtyGround, Conflict, Disjoint}
use Rattle.un_defs.specs.Ground.{Ground, entry}
use Rattle.un_defs.specs.Refusing.{first_refusal, refused_if}
use Rattle.un_subnet.specs.Alone.{least_apart}

-- ---- dirty areas

-- a dirty area covers a reached node
abbrev pub dirt_refusal : Option Dirt → Option Refusal
dirt_refusal met = option_map (λ d. DirtyGround d.area d.port.feature d.port.number) met

-- ---- other subnetworks

-- the controller is of another subnetwork of the tier
abbrev pub is_foreign : ℕ → List ℕ → Controller → Bool
is_foreign tier subnet c = (c.tier == tier) && not (same_text subnet c.subnet)

-- the port has such a controller
abbrev pub conflict_with : ℕ → List ℕ → Port → Controller → Option Refusal
conflict_with tier subnet q c = refused_if (is_foreign tier subnet c) (Conflict c.subnet q.feature q.number)

-- the controller that the entry of a node has
abbrev pub controller_of : Ground → Node → Option Controller
controller_of G n = option_and_then (λ s. s.controller) (entry G n)

abbrev pub conflict_at : Ground → ℕ → List ℕ → Node → Option Refusal
conflict_at G tier subnet n = option_and_then (conflict_with tier subnet n.port) (controller_of G n)

-- the least reached port with such a controller: the reached nodes are in the order of their ports
abbrev pub conflict_refusal : Ground → ℕ → List ℕ → List Node → Option Refusal
conflict_refusal G tier subnet reached = first_refusal (map (conflict_at G tier subnet) reached)

-- ---- controllers that do not reach one another

-- the least controller that the least one does not reach, unless the tier allows it
abbrev pub disjoint_refusal : Ground → Barriers → Bool → List Node → List Node → Option Refusal
disjoint_refusal G B allowed starts reached =
    if allowed then None else option_map (λ q. Disjoint q.feature q.number) (least_apart G B starts reached)
