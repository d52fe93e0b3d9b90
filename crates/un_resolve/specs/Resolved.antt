-- The trace that a request asks for, with its names looked up, or why there is none.
use Rattle.std.specs.Prelude.{◌≡◌, ℕ, Bool, false, not, ◌||◌, List, [], ◌∷◌, map, slice_get, Option, option_and_then, Contains, IsSome, IsTrue}
use Rattle.std.specs.Option.{option_map_or}
use Rattle.un_conds.specs.Conditions.{Condition}
use Rattle.un_conds.specs.Names.{place_of}
use Rattle.un_schema.specs.Catalog.{Catalog}
use Rattle.un_schema.specs.declared.place.Place.{Place}
use Rattle.un_schema.specs.declared.place.Place.TheVariants as place
use Rattle.un_tiers.specs.declared.setup.Setup.{Setup}
use Rattle.un_tiers.specs.declared.tier.Tier.{Tier}
use Rattle.un_tiers.specs.Raw.{resolves, barrier_from}
use Rattle.un_defs.specs.declared.port.Node.{Node}
use Rattle.un_defs.specs.declared.refusal.Refusal.{Refusal}
use Rattle.un_defs.specs.declared.refusal.Refusal.TheVariants as refusal
use Rattle.un_defs.specs.declared.walk.Barriers.{Barriers}
use Rattle.un_defs.specs.Refusing.{first_refusal, refused_if}
use Rattle.un_defs.specs.Features.{Features}
use Rattle.un_ask.specs.declared.trace.TraceAsk.{TraceAsk}
use Rattle.un_ask.specs.declared.trace.NamedFunc.{NamedFunc}
use Rattle.un_ask.specs.declared.trace.NamedFunc.TheVariants as named
use Rattle.un_ask.specs.declared.typed.Func.{Func}
use Rattle.un_ask.specs.declared.typed.Func.TheVariants as func
use Rattle.un_ask.specs.declared.typed.TypedAsk.{TypedAsk}
use Rattle.un_resolve.specs.Kinds.{is_isolation, is_always_consistent, lacking}
use Rattle.un_resolve.specs.Starts.{given_starts, tier_of, start_nodes, starts_refusal}
use Rattle.un_resolve.specs.Valves.{isolates, valves_refusal}

-- ---- conditions

-- a condition by numbers, if one is given and its names are those of the schema
abbrev pub condition_of : Catalog → Option (Condition (List ℕ)) → Option (Condition ℕ)
condition_of S cond = barrier_from S.attributes S.categories cond

-- a condition is given that has an unknown name, or is too deep or too large
abbrev pub bad_condition : Catalog → Option (Condition (List ℕ)) → Place → Option Refusal
bad_condition S cond place = refused_if (not (resolves S.attributes S.categories cond)) (refusal.BadCondition place)

abbrev pub conditions_refusal : Catalog → TraceAsk → Option Refusal
conditions_refusal S ask = first_refusal (bad_condition S ask.isolators place.Isolators ∷ bad_condition S ask.barriers place.Barriers ∷ [])

-- ---- the tier

-- the tier with the number
abbrev pub tier_at : List Tier → Option ℕ → Option Tier
tier_at tiers tier = option_and_then (slice_get tiers) tier

-- what bounds its subnetworks
abbrev pub tier_barrier : List Tier → Option ℕ → Option (Condition ℕ)
tier_barrier tiers tier = option_and_then (λ t. t.barrier) (tier_at tiers tier)

-- whether controllers of one of its subnetworks may stand apart
abbrev pub tier_disjoint : List Tier → Option ℕ → Bool
tier_disjoint tiers tier = option_map_or (λ t. t.disjoint) (tier_at tiers tier) false

-- ---- functions

-- a function with its attribute by number; an unknown attribute is one that no feature has
abbrev pub func_of : Catalog → NamedFunc → Func
func_of S named.Count = func.Count
func_of S (named.Sum name) = func.Sum (place_of name S.attributes)
func_of S (named.Least name) = func.Least (place_of name S.attributes)
func_of S (named.Greatest name) = func.Greatest (place_of name S.attributes)

-- ---- the trace

-- where its walks stop
abbrev pub barriers_of : Setup → TraceAsk → Barriers
barriers_of S ask = record {
  request = condition_of S.schema ask.barriers;
  of_tier = tier_barrier S.tiers (tier_of S ask);
  stops = ask.stops;
  tier = tier_of S ask;
  consistent = is_always_consistent ask.kind || ask.consistent;
}

abbrev pub resolved : Setup → Features → TraceAsk → TypedAsk
resolved S F ask = record {
  kind = ask.kind;
  starts = start_nodes S F ask;
  barriers = barriers_of S ask;
  isolators = condition_of S.schema ask.isolators;
  subnet = ask.subnet;
  disjoint = tier_disjoint S.tiers (tier_of S ask);
  include = ask.include;
  functions = map (func_of S.schema) ask.functions;
}

-- a trace for isolation has a condition for isolating devices
abbrev pub HasIsolators : Setup → TraceAsk → Type 0
HasIsolators S ask = IsTrue (is_isolation ask.kind) → IsSome (condition_of S.schema ask.isolators)

-- a trace for isolation starts on no isolating device
abbrev pub StartsAreClear : Setup → Features → TraceAsk → Type 0
StartsAreClear S F ask = IsTrue (is_isolation ask.kind) → (n : Node) →
    Contains (start_nodes S F ask) n → isolates S.schema F (condition_of S.schema ask.isolators) n.port ≡ false

-- a trace for isolation starts on an isolating device
abbrev pub valve_refusal : Setup → Features → TraceAsk → Option Refusal
valve_refusal S F ask = valves_refusal S.schema F (condition_of S.schema ask.isolators) (given_starts ask)

-- the first refusal that can be told before a walk: what the request lacks, then what its names and ports do not name, and then a start on an
-- isolating device
abbrev pub resolving_refusal : Setup → Features → TraceAsk → Option Refusal
resolving_refusal S F ask = first_refusal (lacking ask ∷ starts_refusal S F ask ∷ conditions_refusal S.schema ask ∷ valve_refusal S F ask ∷ [])
