-- What an update does to the stored rows, by its caller's part too.
use Rattle.std.specs.Prelude.{ℕ, ◌==◌, nat_le, Bool, false, true, not, ◌&&◌, List, [], ◌∷◌, ◌++◌, filter, length, Option, None, Some, option_to_list, if◌then◌else◌}
use Rattle.std.specs.List.{list_any}
use Rattle.std.specs.Option.{option_map_or}
use Rattle.un_conds.specs.Conditions.{Condition}
use Rattle.un_conds.specs.Names.{same_text}
use Rattle.un_defs.specs.declared.port.Node.{Node}
use Rattle.un_defs.specs.declared.walk.Barriers.{Barriers}
use Rattle.un_defs.specs.declared.refusal.Refusal.{Refusal}
use Rattle.un_defs.specs.declared.refusal.Refusal.TheVariants.{NoSuchTier, NoSuchSubnetwork, Full}
use Rattle.un_defs.specs.declared.refusal.Limit.TheVariants.{Subnetworks}
use Rattle.un_defs.specs.Features.{Features, controllers_of}
use Rattle.un_defs.specs.Ground.{Ground}
use Rattle.un_defs.specs.Refusing.{first_refusal, refused_if}
use Rattle.un_ask.specs.declared.trace.TraceKind.TheVariants.{Subnetwork}
use Rattle.un_ask.specs.declared.typed.TypedAsk.{TypedAsk}
use Rattle.un_ask.specs.declared.stored.StoredSubnet.{StoredSubnet}
use Rattle.un_subnet.specs.Starts.{controller_nodes}
use Rattle.un_subnet.specs.Answer.{walk_refusal, row_of}

-- ---- what is walked

-- the tier's barriers alone stop the walk of an update, which is consistent
abbrev pub tier_barriers : Option (Condition ℕ) → ℕ → Barriers
tier_barriers barrier tier = record { request = None; of_tier = barrier; stops = []; tier = Some tier; consistent = true }

-- the walk from the controllers of a subnetwork, of whose tier the barrier and whether it allows disjoint controllers are given
abbrev pub update_ask : Features → Option (Condition ℕ) → Bool → ℕ → List ℕ → TypedAsk
update_ask F barrier disjoint tier subnet = record {
  kind = Subnetwork;
  starts = controller_nodes F tier subnet;
  barriers = tier_barriers barrier tier;
  isolators = None;
  subnet = Some subnet;
  disjoint = disjoint;
  include = record { barriers = false; containers = false; content = false; structures = false };
  functions = [];
}

-- ---- the stored rows

abbrev pub is_row_of : ℕ → List ℕ → StoredSubnet → Bool
is_row_of tier subnet row = (row.tier == tier) && same_text subnet row.subnet

abbrev pub has_row : List StoredSubnet → ℕ → List ℕ → Bool
has_row rows tier subnet = list_any (is_row_of tier subnet) rows

-- the most that are stored
abbrev pub most_rows : ℕ
most_rows = 4096

-- ---- what the caller refuses

abbrev pub no_tier : Option ℕ → Option Refusal
no_tier None = Some NoSuchTier
no_tier (Some tier) = None

abbrev pub has_controllers : Features → ℕ → List ℕ → Bool
has_controllers F tier subnet = nat_le 1 (length (controllers_of F tier subnet))

-- neither a controller of the subnetwork nor its row is there
abbrev pub no_subnet : Features → List StoredSubnet → ℕ → List ℕ → Option Refusal
no_subnet F rows tier subnet = refused_if (not (has_controllers F tier subnet) && not (has_row rows tier subnet)) NoSuchSubnetwork

-- the row would be one more than are stored
abbrev pub no_room : List StoredSubnet → ℕ → List ℕ → Option Refusal
no_room rows tier subnet = refused_if (not (has_row rows tier subnet) && nat_le most_rows (length rows)) (Full Subnetworks)

-- ---- the outcome

-- an update is refused, or it removes the stored row, or it stores one in place of that of its subnetwork, if there is one
pub data Outcome : Type 0 where
  refuses : Refusal → Outcome
  removes : Outcome
  stores : StoredSubnet → Outcome

abbrev pub unless_refused : Option Refusal → Outcome → Outcome
unless_refused due otherwise = option_map_or refuses due otherwise

-- of a subnetwork with controllers, whose walk reached these nodes
abbrev pub walk_outcome : Ground → List StoredSubnet → ℕ → List ℕ → TypedAsk → List Node → Outcome
walk_outcome G rows tier subnet ask reached =
    unless_refused (first_refusal (walk_refusal G ask reached ∷ no_room rows tier subnet ∷ [])) (stores (row_of ask reached))

-- of any subnetwork of a tier: where only the stored row is left, nothing is walked
abbrev pub subnet_outcome : Ground → Features → List StoredSubnet → ℕ → List ℕ → TypedAsk → List Node → Outcome
subnet_outcome G F rows tier subnet ask reached = unless_refused (no_subnet F rows tier subnet)
    (if has_controllers F tier subnet then walk_outcome G rows tier subnet ask reached else removes)

-- of any name, where the tier's is looked up
abbrev pub update_outcome : Ground → Features → List StoredSubnet → Option (Condition ℕ) → Bool → Option ℕ → List ℕ → List Node → Outcome
update_outcome G F rows barrier disjoint None subnet reached = refuses NoSuchTier
update_outcome G F rows barrier disjoint (Some tier) subnet reached =
    subnet_outcome G F rows tier subnet (update_ask F barrier disjoint tier subnet) reached

-- ---- what it leaves

-- why it is refused
abbrev pub outcome_refusal : Outcome → Option Refusal
outcome_refusal (refuses r) = Some r
outcome_refusal removes = None
outcome_refusal (stores row) = None

-- the row that it stores at a version
abbrev pub stored_row : Outcome → ℕ → Option StoredSubnet
stored_row (refuses r) version = None
stored_row removes version = None
stored_row (stores row) version = Some (record row { updated = version })

-- the rows of other subnetworks
abbrev pub other_rows : List StoredSubnet → ℕ → List ℕ → List StoredSubnet
other_rows rows tier subnet = filter (λ row. not (is_row_of tier subnet row)) rows

-- the stored rows after an outcome that is no refusal: those of other subnetworks, and behind them the one that is stored
abbrev pub rows_after : Outcome → ℕ → List StoredSubnet → ℕ → List ℕ → List StoredSubnet
rows_after outcome version rows tier subnet = other_rows rows tier subnet ++ option_to_list (stored_row outcome version)
