-- Tiers as a schema gives them: the first bad one, and what each stands for.
use Rattle.std.specs.Prelude.{ℕ, nat_lt, Bool, true, not, ◌&&◌, if◌then◌else◌, List, [], ◌∷◌, ◌++◌, map, length, Option, Some, None, is_some, option_and_then, option_map}
use Rattle.std.specs.List.{list_any}
use Rattle.std.specs.Option.{option_map_or}
use Rattle.un_conds.specs.declared.raw.RawCond.{RawCond}
use Rattle.un_conds.specs.Conditions.{Condition}
use Rattle.un_conds.specs.Forms.{written}
use Rattle.un_conds.specs.Names.{same_text}
use Rattle.un_conds.specs.Resolution.{resolved}
use Rattle.un_schema.specs.Names.{is_name}
use Rattle.un_tiers.specs.declared.raw.RawTier.{RawTier}
use Rattle.un_tiers.specs.declared.tier.Tier.{Tier}

-- a tier as it is written, whatever holds its condition in memory
pub record WrittenTier : Type 0 where
  pub name : List ℕ
  pub barrier : Option (Condition (List ℕ))
  pub disjoint : Bool

abbrev pub written_barrier : Option RawCond → Option (Condition (List ℕ))
written_barrier barrier = option_map written barrier

abbrev pub written_tier : RawTier → WrittenTier
written_tier tier = record { name = tier.name; barrier = written_barrier tier.barrier; disjoint = tier.disjoint }

-- the barrier by numbers, over the names of attributes and of categories
abbrev pub barrier_from : List (List ℕ) → List (List ℕ) → Option (Condition (List ℕ)) → Option (Condition ℕ)
barrier_from attributes categories barrier = option_and_then (resolved attributes categories) barrier

-- there is no barrier, or it can be resolved
abbrev pub resolves : List (List ℕ) → List (List ℕ) → Option (Condition (List ℕ)) → Bool
resolves attributes categories barrier = option_map_or (λ c. is_some (resolved attributes categories c)) barrier true

-- the tier can stand after those before it: there are fewer than 16, and none has its name, which has the form of one
abbrev pub is_good : List (List ℕ) → List (List ℕ) → List Tier → WrittenTier → Bool
is_good attributes categories before tier =
    nat_lt (length before) 16 && not (list_any (λ other. same_text tier.name other.name) before) && is_name tier.name
    && resolves attributes categories tier.barrier

abbrev pub tier_from : List (List ℕ) → List (List ℕ) → WrittenTier → Tier
tier_from attributes categories tier = record {
  name = tier.name;
  barrier = barrier_from attributes categories tier.barrier;
  disjoint = tier.disjoint;
}

-- the place of the first tier that cannot stand after those before it, some of which are kept already
abbrev pub first_bad : List (List ℕ) → List (List ℕ) → List Tier → List WrittenTier → Option ℕ
first_bad attributes categories before [] = None
first_bad attributes categories before (tier ∷ tiers) =
    if is_good attributes categories before tier
    then first_bad attributes categories (before ++ tier_from attributes categories tier ∷ []) tiers
    else Some (length before)

-- the same of tiers as a schema gives them
abbrev pub first_bad_of : List (List ℕ) → List (List ℕ) → List RawTier → Option ℕ
first_bad_of attributes categories raw = first_bad attributes categories [] (map written_tier raw)

-- what they stand for
abbrev pub tiers_from : List (List ℕ) → List (List ℕ) → List RawTier → List Tier
tiers_from attributes categories raw = map (tier_from attributes categories) (map written_tier raw)
