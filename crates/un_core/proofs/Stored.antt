-- The points of stored subnetworks stay in order as one is updated.
use Rattle.std.proofs.Common.{ℕ, ◌+◌, Bool, true, false, not, List, [], ◌∷◌, map, Option, None, Some, if◌then◌else◌, arith}
use Rattle.std.specs.Prelude.{⊤, option_to_list}
use Rattle.std.proofs.lemmas.List.Elements.{All-append, All-push, All-filter}
use Rattle.std.specs.Option.{option_map_or}
use Rattle.un_defs.specs.declared.port.Node.{Node}
use Rattle.un_defs.specs.declared.refusal.Refusal.{Refusal}
use Rattle.un_defs.specs.Features.{Features}
use Rattle.un_defs.specs.Ground.{Ground}
use Rattle.un_defs.specs.Refusing.{first_refusal}
use Rattle.un_ask.specs.declared.stored.StoredSubnet.{StoredSubnet}
use Rattle.un_ask.specs.declared.typed.TypedAsk.{TypedAsk}
use Rattle.un_subnet.specs.Answer.{walk_refusal, row_of}
use Rattle.un_subnet.specs.Outcome.{Outcome, refuses, removes, stores, unless_refused, no_room, no_subnet, has_controllers, walk_outcome, subnet_outcome, stored_row, is_row_of, other_rows}
use Rattle.un_subnet.specs.Stored.{AreOrdered}
use Rattle.un_subnet.proofs.Ordered.{IsOrdered}
use Rattle.un_defs.specs.declared.refusal.Refusal.TheVariants.{NoSuchTier}
use Rattle.un_defs.specs.declared.walk.Mode.TheVariants.{Any}
use Rattle.un_tiers.specs.Lists.{tier_named}
use Rattle.un_core.specs.State.{State, fresh_ground_of}
use Rattle.un_core.specs.Walked.{reached, fresh_survey}
use Rattle.un_core.specs.Updating.{number_of, walk_of, outcome_in, outcome, updated}
use Rattle.un_defs.proofs.Rising.{sorted-rising}
use Rattle.un_defs.proofs.OrderLaws.{point_total}

-- the row that is stored, if there is one, has its points in order
abbrev StoresOrdered : Outcome → Type 0
StoresOrdered (refuses r) = ⊤
StoresOrdered removes = ⊤
StoresOrdered (stores row) = IsOrdered row

unless_ordered : (due : Option Refusal) (otherwise : Outcome) → StoresOrdered otherwise → StoresOrdered (unless_refused due otherwise)
unless_ordered None otherwise ordered = ordered
unless_ordered (Some r) otherwise ordered = tt

subnet_ordered : (G : Ground) (F : Features) (rows : List StoredSubnet) (tier : ℕ) (subnet : List ℕ) (ask : TypedAsk) (reached : List Node)
    → StoresOrdered (subnet_outcome G F rows tier subnet ask reached)
subnet_ordered G F rows tier subnet ask reached =
    unless_ordered (no_subnet F rows tier subnet) (if has_controllers F tier subnet then walk_outcome G rows tier subnet ask reached else removes)
    (go (has_controllers F tier subnet))
  where
    go : (b : Bool) → StoresOrdered (if b then walk_outcome G rows tier subnet ask reached else removes)
    go true = unless_ordered (first_refusal (walk_refusal G ask reached ∷ no_room rows tier subnet ∷ [])) (stores (row_of ask reached))
        (sorted-rising point_total (map (λ n. n.at) reached))
    go false = tt

outcome_ordered : (s : State) (tier subnet : List ℕ) → StoresOrdered (outcome s tier subnet)
outcome_ordered s tier subnet = go (tier_named s.setup.tiers tier)
  where
    go : (o : Option ℕ) → StoresOrdered (option_map_or (λ number. outcome_in s (fresh_survey s) number subnet) o (refuses NoSuchTier))
    go None = tt
    go (Some number) =
        let ask = walk_of s number subnet in
        subnet_ordered (fresh_ground_of s) s.features s.stored number subnet ask (reached (fresh_survey s) ask.barriers Any ask.starts)

left_ordered : (outcome : Outcome) (version : ℕ) → StoresOrdered outcome → AreOrdered (option_to_list (stored_row outcome version))
left_ordered (refuses r) version ordered = λ i d l. absurd (omega arith)
left_ordered removes version ordered = λ i d l. absurd (omega arith)
left_ordered (stores row) version ordered = All-push IsOrdered [] (record row { updated = version }) (λ i d l. absurd (omega arith)) ordered

pub rows_ordered : (s : State) (tier subnet : List ℕ) → AreOrdered s.stored → AreOrdered (updated s tier subnet).stored
rows_ordered s tier subnet ordered =
    All-append IsOrdered (other_rows s.stored (number_of s tier) subnet) (option_to_list (stored_row (outcome s tier subnet) (s.version + 1)))
    (All-filter (λ row. not (is_row_of (number_of s tier) subnet row)) IsOrdered s.stored ordered)
    (left_ordered (outcome s tier subnet) (s.version + 1) (outcome_ordered s tier subnet))
