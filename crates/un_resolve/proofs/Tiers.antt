-- A trace that walks in a tier and is not refused has one.
use Rattle.std.proofs.Common.{◌≡◌, ◌&&◌, not, is_some, Bool, true, false, List, [], ◌∷◌, Option, None, Some, IsSome, IsTrue, refl}
use Rattle.un_schema.specs.declared.place.Place.{Place}
use Rattle.un_schema.specs.declared.place.Place.TheVariants as place
use Rattle.un_defs.specs.declared.refusal.Refusal.{Refusal}
use Rattle.un_defs.specs.declared.refusal.Refusal.TheVariants as refusal
use Rattle.un_defs.specs.Refusing.{first_refusal, refused_if}
use Rattle.un_tiers.specs.declared.setup.Setup.{Setup}
use Rattle.un_ask.specs.declared.trace.TraceAsk.{TraceAsk}
use Rattle.un_resolve.specs.Kinds.{needs_tier, is_subnetwork, is_isolation, lacks, lacking}
use Rattle.un_resolve.specs.Starts.{tier_of, no_tier}

pub some_none : {A : Type 0} (r : Refusal) → Some r ≡ None → A
some_none r e = absurd (apart e)
  where
    apart : Some r ≡ None → ⊥
    apart e = cc

-- where nothing is due of a list, nothing is due of its first
pub none_first : (d : Option Refusal) (ds : List (Option Refusal)) → first_refusal (d ∷ ds) ≡ None → d ≡ None
none_first None ds e = refl
none_first (Some r) ds e = some_none r e

pub is_given : (needed given : Bool) (p : Place) → lacks needed given p ≡ None → IsTrue needed → given ≡ true
is_given true true p e h = refl
is_given true false p e h = some_none (refusal.BadRequest p) e
is_given false given p e h = absurd (apart h)
  where
    apart : false ≡ true → ⊥
    apart e = cc

there : (asked found : Bool) → refused_if (asked && not found) refusal.NoSuchTier ≡ None → asked ≡ true → found ≡ true
there true true e h = refl
there true false e h = some_none refusal.NoSuchTier e
there false found e h = absurd (apart h)
  where
    apart : false ≡ true → ⊥
    apart e = cc

pub has_tier : (S : Setup) (ask : TraceAsk) → lacking ask ≡ None → no_tier S ask ≡ None → IsTrue (needs_tier ask.kind) → IsSome (tier_of S ask)
has_tier S ask whole found needed =
    there (is_some ask.tier) (is_some (tier_of S ask)) found
    (is_given (needs_tier ask.kind) (is_some ask.tier) place.Tier
    (none_first (lacks (needs_tier ask.kind) (is_some ask.tier) place.Tier)
    (lacks (is_subnetwork ask.kind) (is_some ask.subnet) place.Subnet ∷ lacks (is_isolation ask.kind) (is_some ask.isolators) place.Isolators ∷ []) whole) needed)
