-- A schema whose members are good is a catalog as it must be.
use Rattle.std.proofs.Common.{◌≡◌, ℕ, ◌<◌, ◌≤◌, nat_lt, Bool, true, false, cond, ◌&&◌, ◌==◌, if◌then◌else◌, List, [], ◌∷◌, length, map, All, IsTrue, Option, Some, None, IfSome, is_none, position, option_and_then, refl, ap, ◌∙◌, sym, arith, ◌+◌}
use Rattle.std.specs.List.{list_all, filter_map, position_or_len, cons_option}
use Rattle.std.proofs.lemmas.Bool.Decides.{nat_tests}
use Rattle.std.proofs.lemmas.List.{length-map}
use Rattle.std.proofs.lemmas.List.Elements.{All-cons}
use Rattle.un_terms.specs.Config.{bad_path}
use Rattle.un_terms.proofs.PathLemmas.{paths_good}
use Rattle.un_conds.specs.Names.{same_text}
use Rattle.un_schema.specs.declared.raw.Format.{Format}
use Rattle.un_schema.specs.declared.raw.RawSchema.{RawSchema}
use Rattle.un_schema.specs.declared.raw.RawConfig.{RawConfig}
use Rattle.un_schema.specs.declared.raw.RawKind.{RawKind}
use Rattle.un_schema.specs.declared.raw.RawRule.{RawRule}
use Rattle.un_schema.specs.declared.rule.Rule.{Rule}
use Rattle.un_schema.specs.Catalog.{Catalog}
use Rattle.un_schema.specs.Fits.{fits}
use Rattle.un_schema.specs.Lists.{are_named, are_distinct, items_of, has}
use Rattle.un_schema.specs.Raw.{is_config, are_configs, config_from, config_number, pairs_of_paths, is_kind, are_kinds, kind_from, is_same_type, is_allowed, numbered, rule_from, kinds_from, good_attributes, good_categories, good_configs, good_kinds}
use Rattle.un_schema.specs.Sound.{IsPathSet, HasConfig, IsCatalog}
use Rattle.un_schema.proofs.Distinct.{both_true, named_from, name_list_from, names_apart}

none_from : {A : Type 0} (o : Option A) → is_none o ≡ true → o ≡ None
none_from None e = refl
none_from (Some x) e = cc

-- ---- configurations

path_set_from : (c : RawConfig) → is_config c ≡ true → IsPathSet (config_from c)
path_set_from c good =
    let terminals = are_named (λ terminal. terminal) 2 8 c.terminals in
    let paths = are_named (λ path. path.name) 1 32 c.paths in
    let bad = bad_path c.directional (length c.terminals) (pairs_of_paths c) in
    let parts = both_true (terminals && paths) (is_none bad) good in
    let lists = both_true terminals paths parts.0 in
    let ts = named_from (λ terminal. terminal) 2 8 c.terminals lists.0 in
    let ps = named_from (λ path. path.name) 1 32 c.paths lists.1 in
    let count : length (pairs_of_paths c) ≡ length c.paths = length-map c.paths _ in
    let names : length (map (λ path. path.name) c.paths) ≡ length c.paths = length-map c.paths (λ path. path.name) in
    record {
      config = record {
        enough = ts.some;
        few = ts.few;
        some = omega (arith, ps.some, count);
        each = paths_good 0 c.directional (length c.terminals) (pairs_of_paths c) (none_from bad parts.1);
      };
      named = names ∙ sym count;
      names = record { few = omega (arith, ps.few, names); distinct = names_apart (λ path. path.name) c.paths ps.distinct };
    }

path_sets_from : (cs : List RawConfig) → list_all is_config cs ≡ true → All IsPathSet (map config_from cs)
path_sets_from [] e = λ k d few. absurd (omega arith)
path_sets_from (c ∷ cs) e =
    let parts = both_true (is_config c) (list_all is_config cs) e in
    All-cons IsPathSet (config_from c) (map config_from cs) (path_set_from c parts.0) (path_sets_from cs parts.1)

-- ---- kinds

below : (b : Bool) (n m : ℕ) → nat_lt n m ≡ b → IfSome (cond b (Some n) None) (λ i. i < m)
below true n m e = grind (arith, nat_tests)
below false n m e = tt

position_below : {A : Type 0} (p : A → Bool) (xs : List A) → IfSome (position p xs) (λ i. i < length xs)
position_below p xs = below (nat_lt (position_or_len p xs) (length xs)) (position_or_len p xs) (length xs) refl

below_if : (b : Bool) (o : Option ℕ) (m : ℕ) → IfSome o (λ i. i < m) → IfSome (cond b None o) (λ i. i < m)
below_if true o m h = tt
below_if false o m h = h

config_below : (configs : List RawConfig) (name : List ℕ) → IfSome (config_number configs name) (λ i. i < length configs)
config_below configs name =
    below_if (length name == 0) (position (λ c. same_text name c.name) configs) (length configs) (position_below (λ c. same_text name c.name) configs)

kinds_have_configs : (categories : List (List ℕ)) (configs : List RawConfig) (count : ℕ) (ks : List RawKind) → count ≡ length configs
    → All (HasConfig count) (map (kind_from categories configs) ks)
kinds_have_configs categories configs count [] same = λ k d few. absurd (omega arith)
kinds_have_configs categories configs count (k ∷ ks) same =
    let own : HasConfig count (kind_from categories configs k) = rw same (record { config = config_below configs k.config }) in
    All-cons (HasConfig count) (kind_from categories configs k) (map (kind_from categories configs) ks) own (kinds_have_configs categories configs count ks same)

names_of_kinds : (categories : List (List ℕ)) (configs : List RawConfig) (ks : List RawKind)
    → map (λ k. k.name) (map (kind_from categories configs) ks) ≡ map (λ k. k.name) ks
names_of_kinds categories configs [] = refl
names_of_kinds categories configs (k ∷ ks) = ap (λ names. k.name ∷ names) (names_of_kinds categories configs ks)

-- ---- rules

fits_if : (b : Bool) (S : Catalog) (rule : Rule) → fits S rule ≡ b → IfSome (cond b (Some rule) None) (λ r. IsTrue (fits S r))
fits_if true S rule e = e
fits_if false S rule e = tt

fits_and_then : (S : Catalog) (o : Option Rule) → IfSome (option_and_then (λ r. if fits S r then Some r else None) o) (λ r. IsTrue (fits S r))
fits_and_then S None = tt
fits_and_then S (Some rule) = fits_if (fits S rule) S rule refl

allowed_fits : (b : Bool) (S : Catalog) (o : Option Rule) → IfSome o (λ r. IsTrue (fits S r)) → IfSome (cond b o None) (λ r. IsTrue (fits S r))
allowed_fits true S o h = h
allowed_fits false S o h = tt

rule_fits : (format : Format) (S : Catalog) (rule : RawRule) → IfSome (rule_from format S rule) (λ r. IsTrue (fits S r))
rule_fits format S rule = allowed_fits (is_allowed format rule) S (option_and_then (λ r. if fits S r then Some r else None) (numbered S rule)) (fits_and_then S (numbered S rule))

All-cons_option : {A : Type 0} (P : A → Type 0) (o : Option A) (xs : List A) → IfSome o P → All P xs → All P (cons_option o xs)
All-cons_option P None xs head others = others
All-cons_option P (Some x) xs head others = All-cons P x xs head others

-- each rule that is kept fits
pub rules_fit : (format : Format) (S : Catalog) (rules : List RawRule) → All (λ r. IsTrue (fits S r)) (filter_map (rule_from format S) rules)
rules_fit format S [] = λ k d few. absurd (omega arith)
rules_fit format S (rule ∷ rules) =
    All-cons_option (λ r. IsTrue (fits S r)) (rule_from format S rule) (filter_map (rule_from format S) rules) (rule_fits format S rule) (rules_fit format S rules)

length-cons_option : {A : Type 0} (o : Option A) (xs : List A) → length (cons_option o xs) ≤ length xs + 1
length-cons_option None xs = omega arith
length-cons_option (Some x) xs = omega arith

-- and none is added
pub rules_few : (format : Format) (S : Catalog) (rules : List RawRule) → length (filter_map (rule_from format S) rules) ≤ length rules
rules_few format S [] = omega arith
rules_few format S (rule ∷ rules) =
    omega (arith, rules_few format S rules, length-cons_option (rule_from format S rule) (filter_map (rule_from format S) rules))

-- ---- the schema

-- what passes a test as a member passes it as a list
pub items_pass : {A : Type 0} (test : List A → Bool) (member : Option (List A)) → has test member ≡ true → test (items_of member) ≡ true
items_pass test None e = cc
items_pass test (Some v) e = e

-- the kinds of a schema, before it has rules
pub sound_from : (s : RawSchema) → good_attributes s ≡ true → good_categories s ≡ true → good_configs s ≡ true → good_kinds s ≡ true → IsCatalog (kinds_from s)
sound_from s attributes categories configs kinds =
    let cs = items_of s.configs in
    let ks = items_of s.kinds in
    let known = items_of s.categories in
    let c = both_true (are_named (λ c. c.name) 0 64 cs) (list_all is_config cs) (items_pass are_configs s.configs configs) in
    let cn = named_from (λ c. c.name) 0 64 cs c.0 in
    let k = both_true (are_named (λ k. k.name) 1 256 ks && are_distinct is_same_type ks) (list_all (is_kind known cs) ks) (items_pass (are_kinds known cs) s.kinds kinds) in
    let kd = both_true (are_named (λ k. k.name) 1 256 ks) (are_distinct is_same_type ks) k.0 in
    let kn = named_from (λ k. k.name) 1 256 ks kd.0 in
    let count : length (map config_from cs) ≡ length cs = length-map cs config_from in
    let kinds_count : length (map (kind_from known cs) ks) ≡ length ks = length-map ks (kind_from known cs) in
    record {
      attributes = name_list_from 0 32 (items_of s.attributes) (omega arith) (items_pass (are_named (λ name. name) 0 32) s.attributes attributes);
      categories = name_list_from 0 32 (items_of s.categories) (omega arith) (items_pass (are_named (λ name. name) 0 32) s.categories categories);
      few_configs = omega (arith, cn.few, count);
      configs = path_sets_from cs c.1;
      some_kinds = omega (arith, kn.some, kinds_count);
      few_kinds = omega (arith, kn.few, kinds_count);
      kinds = kinds_have_configs known cs (length (map config_from cs)) ks count;
      kind_names = rw (names_of_kinds known cs ks) (names_apart (λ k. k.name) ks kn.distinct);
      few_rules = omega arith;
      rules = λ k d few. absurd (omega arith);
    }
