-- A schema without a bad member stands for a catalog as each is.
use Rattle.std.proofs.Common.{◌≡◌, ℕ, ◌≤◌, nat_le, Bool, true, false, List, [], ◌∷◌, length, Some, None, is_some, refl, arith}
use Rattle.std.specs.List.{list_all, filter_map}
use Rattle.std.proofs.lemmas.Bool.Decides.{nat_tests}
use Rattle.un_schema.specs.declared.place.Place.{Place}
use Rattle.un_schema.specs.declared.place.Place.TheVariants.{Attributes, Categories, Configs, Kinds, Rules}
use Rattle.un_schema.specs.Lists.{items_of}
use Rattle.un_schema.specs.Raw.{first_bad, rule_from, are_rules, kinds_from, good_attributes, good_categories, good_configs, good_kinds, good_rules}
use Rattle.un_schema.specs.GoodSchemas.{GoodSchemaLaw}
use Rattle.un_schema.proofs.Distinct.{both_true}
use Rattle.un_schema.proofs.Soundness.{items_pass, sound_from, rules_fit, rules_few}
use Rattle.un_schema.proofs.AddedRule.{sound_with_rules}

-- where no member is bad, the first isn't, and none of the others is
first_good : (place : Place) (good : Bool) (others : List (Place × Bool)) → first_bad ((place, good) ∷ others) ≡ None → (good ≡ true) × (first_bad others ≡ None)
first_good place true others e = (refl, e)
first_good place false others e = let none : Some place ≡ None = e in cc

few_if : (n m : ℕ) → nat_le n m ≡ true → n ≤ m
few_if n m e = grind (arith, nat_tests)

pub good_schema : GoodSchemaLaw
good_schema s good =
    let last : List (Place × Bool) = (Rules, good_rules s) ∷ [] in
    let fourth : List (Place × Bool) = (Kinds, good_kinds s) ∷ last in
    let third : List (Place × Bool) = (Configs, good_configs s) ∷ fourth in
    let attributes = first_good Attributes (good_attributes s) ((Categories, good_categories s) ∷ third) good in
    let categories = first_good Categories (good_categories s) third attributes.1 in
    let configs = first_good Configs (good_configs s) fourth categories.1 in
    let kinds = first_good Kinds (good_kinds s) last configs.1 in
    let rules = first_good Rules (good_rules s) [] kinds.1 in
    let raws = items_of s.rules in
    let bare = kinds_from s in
    let passed = both_true (nat_le (length raws) 4096) (list_all (λ rule. is_some (rule_from s.format bare rule)) raws)
    (items_pass (are_rules s.format bare) s.rules rules.0) in
    sound_with_rules bare (filter_map (rule_from s.format bare) raws)
    (sound_from s attributes.0 categories.0 configs.0 kinds.0)
    (omega (arith, rules_few s.format bare raws, few_if (length raws) 4096 passed.0))
    (rules_fit s.format bare raws)
