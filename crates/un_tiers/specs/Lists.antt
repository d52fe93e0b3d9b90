-- Lists of tiers.
use Rattle.std.specs.Prelude.{ℕ, ◌≤◌, ◌≢◌, List, length, AllPairs, Option, position}
use Rattle.un_conds.specs.Names.{same_text}
use Rattle.un_tiers.specs.declared.tier.Tier.{Tier}

-- the number of the tier with this name
abbrev pub tier_named : List Tier → List ℕ → Option ℕ
tier_named tiers name = position (λ tier. same_text name tier.name) tiers

-- at most 16, with distinct names
pub record IsTierList (tiers : List Tier) : Type 0 where
  pub few : length tiers ≤ 16
  pub distinct : AllPairs (λ a b. a.name ≢ b.name) tiers
