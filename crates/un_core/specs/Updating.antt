-- What the update of a subnetwork does to the state.
use Rattle.std.specs.Prelude.{ℕ, ◌+◌, List, Option, None, Some, unwrap_or, Result, Ok, Err, ⊤}
use Rattle.std.specs.Option.{option_map_or}
use Rattle.un_defs.specs.declared.walk.Mode.TheVariants.{Any}
use Rattle.un_defs.specs.declared.refusal.Refusal.{Refusal}
use Rattle.un_defs.specs.declared.refusal.Refusal.TheVariants.{NoSuchTier, Memory}
use Rattle.un_ask.specs.declared.stored.StoredSubnet.{StoredSubnet}
use Rattle.un_ask.specs.declared.reply.Reply.{Reply}
use Rattle.un_ask.specs.declared.reply.Reply.TheVariants as reply
use Rattle.un_ask.specs.declared.typed.TypedAsk.{TypedAsk}
use Rattle.un_tiers.specs.Lists.{tier_named}
use Rattle.un_resolve.specs.Resolved.{tier_barrier, tier_disjoint}
use Rattle.un_subnet.specs.Outcome.{Outcome, refuses, removes, stores, update_ask, subnet_outcome, stored_row, rows_after}
use Rattle.un_core.specs.State.{State}
use Rattle.un_core.specs.Walked.{Survey, reached, fresh_survey}

-- the number of the tier, or 0 where there is none of the name
abbrev pub number_of : State → List ℕ → ℕ
number_of s tier = unwrap_or (tier_named s.setup.tiers tier) 0

-- the walk of an update, from the controllers of the subnetwork as the features stand
abbrev pub walk_of : State → ℕ → List ℕ → TypedAsk
walk_of s tier subnet = update_ask s.features (tier_barrier s.setup.tiers (Some tier)) (tier_disjoint s.setup.tiers (Some tier)) tier subnet

-- what an update does to a subnetwork of a tier, where it walks over a topology
abbrev pub outcome_in : State → Survey → ℕ → List ℕ → Outcome
outcome_in s v tier subnet =
    let ask = walk_of s tier subnet in
    subnet_outcome v.topology s.features s.stored tier subnet ask (reached v ask.barriers Any ask.starts)

-- to one of any tier
abbrev pub outcome_over : State → Survey → List ℕ → List ℕ → Outcome
outcome_over s v tier subnet = option_map_or (λ number. outcome_in s v number subnet) (tier_named s.setup.tiers tier) (refuses NoSuchTier)

-- it walks over the topology of all features
abbrev pub outcome : State → List ℕ → List ℕ → Outcome
outcome s tier subnet = outcome_over s (fresh_survey s) tier subnet

-- an outcome that is no refusal, by the row that it stores
abbrev pub done : Option StoredSubnet → Outcome
done None = removes
done (Some row) = stores row

-- the reply to a walk has a row or a refusal
abbrev pub IsOfWalk : Reply → Type 0
IsOfWalk (reply.Updated (Some row) version) = ⊤
IsOfWalk (reply.Refused r edit version) = ⊤
IsOfWalk _ = ⊥

-- the row in such a reply, or the refusal
abbrev pub row_in_reply : Reply → Result StoredSubnet Refusal
row_in_reply (reply.Updated (Some row) version) = Ok row
row_in_reply (reply.Refused r edit version) = Err r
row_in_reply _ = Err Memory

-- the state after an update: the row of the subnetwork is stored, or gone
abbrev pub updated : State → List ℕ → List ℕ → State
updated s tier subnet = record s {
  stored = rows_after (outcome s tier subnet) (s.version + 1) s.stored (number_of s tier) subnet;
  version = s.version + 1;
}

-- the reply to an update that is accepted
abbrev pub updated_reply : State → List ℕ → List ℕ → Reply
updated_reply s tier subnet = reply.Updated (stored_row (outcome s tier subnet) (s.version + 1)) (s.version + 1)
