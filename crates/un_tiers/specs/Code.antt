-- How a list of tiers is stored.
use Rattle.std.specs.Prelude.{ℕ, Bool, List, Option, refl}
use Rattle.std.specs.Coded.{Coded, code_by, coded×, coded_ℕ, coded_bool, coded_list, coded_option}
use Rattle.un_conds.specs.Code.{condition_code}
use Rattle.un_conds.specs.Conditions.{Condition}
use Rattle.un_tiers.specs.declared.tier.Tier.{Tier}

-- a tier is stored as its parts
abbrev pub tier_code : Coded Tier
tier_code =
    code_by (List ℕ × (Option (Condition ℕ) × Bool)) (coded× (coded_list coded_ℕ) (coded× (coded_option condition_code) coded_bool))
    (λ t. (t.name, (t.barrier, t.disjoint))) (λ p. record { name = p.0; barrier = p.1.0; disjoint = p.1.1 }) (λ _. refl)

abbrev pub tiers_code : Coded (List Tier)
tiers_code = coded_list tier_code
