-- A schema as it is given: which of its members are good, and the catalog that it stands for.
use Rattle.std.specs.Prelude.{ℕ, ◌+◌, ◌*◌, ◌==◌, nat_le, Bool, true, false, not, ◌&&◌, ◌||◌, if◌then◌else◌, List, [], ◌∷◌, length, map, position, Option, Some, None, is_some, is_none, option_and_then}
use Rattle.std.specs.List.{list_all, list_any, filter_map}
use Rattle.std.specs.Option.{option_map}
use Rattle.un_conds.specs.Names.{same_text, place_of}
use Rattle.un_terms.specs.Config.{pair_of, bad_path}
use Rattle.un_schema.specs.declared.kind.Kind.{Kind}
use Rattle.un_schema.specs.declared.kind.Policy.{Policy}
use Rattle.un_schema.specs.declared.kind.Policy.TheVariants.{EndVertex, AnyVertex, NoLine}
use Rattle.un_schema.specs.declared.place.Place.{Place}
use Rattle.un_schema.specs.declared.place.Place.TheVariants.{Attributes, Categories, Configs, Kinds, Rules}
use Rattle.un_schema.specs.declared.raw.Format.{Format}
use Rattle.un_schema.specs.declared.raw.Format.TheVariants.{One, Two}
use Rattle.un_schema.specs.declared.raw.RawSchema.{RawSchema}
use Rattle.un_schema.specs.declared.raw.RawConfig.{RawConfig}
use Rattle.un_schema.specs.declared.raw.RawKind.{RawKind}
use Rattle.un_schema.specs.declared.raw.RawRule.{RawRule}
use Rattle.un_schema.specs.declared.raw.RawRule.TheVariants as raw
use Rattle.un_schema.specs.declared.rule.Rule.{Rule}
use Rattle.un_schema.specs.declared.rule.Rule.TheVariants.{JunctionEdge, JunctionJunction, Containment, Attachment, EdgeJunctionEdge}
use Rattle.un_schema.specs.Catalog.{Catalog, PathSet, kind_named}
use Rattle.un_schema.specs.Classes.{same_class, is_device, is_line}
use Rattle.un_schema.specs.Fits.{fits}
use Rattle.un_schema.specs.Lists.{are_distinct, are_named, items_of, has}

-- ---- configurations

-- the pairs of terminals of each path
abbrev pub pairs_of_paths : RawConfig → List (List (ℕ × ℕ))
pairs_of_paths c = map (λ path. map pair_of path.pairs) c.paths

-- 2 to 8 terminals and 1 to 32 paths with distinct names, and no path with a bad pair
abbrev pub is_config : RawConfig → Bool
is_config c =
    are_named (λ terminal. terminal) 2 8 c.terminals && are_named (λ path. path.name) 1 32 c.paths
    && is_none (bad_path c.directional (length c.terminals) (pairs_of_paths c))

abbrev pub are_configs : List RawConfig → Bool
are_configs configs = are_named (λ c. c.name) 0 64 configs && list_all is_config configs

abbrev pub config_from : RawConfig → PathSet
config_from c = record {
  config = record { directional = c.directional; terminals = length c.terminals; paths = pairs_of_paths c };
  paths = map (λ path. path.name) c.paths;
}

-- ---- kinds

abbrev pub is_vertex_policy : Policy → Bool
is_vertex_policy EndVertex = true
is_vertex_policy AnyVertex = true
is_vertex_policy NoLine = false

-- the number of the configuration with this name; the empty text names none
abbrev pub config_number : List RawConfig → List ℕ → Option ℕ
config_number configs name = if length name == 0 then None else position (λ c. same_text name c.name) configs

-- the name of a configuration, or empty
abbrev pub is_config_name : List RawConfig → List ℕ → Bool
is_config_name configs name = (length name == 0) || is_some (config_number configs name)

-- the same class, group and type
abbrev pub is_same_type : RawKind → RawKind → Bool
is_same_type a b = same_class a.class b.class && (a.group == b.group) && (a.asset_type == b.asset_type)

-- distinct names of the list
abbrev pub are_of : List (List ℕ) → List (List ℕ) → Bool
are_of known names = list_all (λ name. is_some (place_of name known)) names && are_distinct (λ a b. same_text a b) names

-- a line has a policy, and nothing else has one
abbrev pub has_policy : RawKind → Bool
has_policy k = if is_line k.class then is_vertex_policy k.policy else not (is_vertex_policy k.policy)

-- a device alone has a configuration and may control
abbrev pub has_device_parts : RawKind → Bool
has_device_parts k = is_device k.class || ((length k.config == 0) && not k.controller)

-- a group and a type from 1, a policy and a configuration as the class has them, and categories
abbrev pub is_kind : List (List ℕ) → List RawConfig → RawKind → Bool
is_kind categories configs k =
    nat_le 1 k.group && nat_le 1 k.asset_type && has_policy k && has_device_parts k
    && is_config_name configs k.config && are_of categories k.categories

abbrev pub are_kinds : List (List ℕ) → List RawConfig → List RawKind → Bool
are_kinds categories configs kinds =
    are_named (λ k. k.name) 1 256 kinds && are_distinct is_same_type kinds && list_all (is_kind categories configs) kinds

-- the word that has bit n where the category at place n is among the names
abbrev pub cats_word : List (List ℕ) → List (List ℕ) → ℕ
cats_word [] names = 0
cats_word (category ∷ categories) names =
    (if list_any (λ name. same_text category name) names then 1 else 0) + 2 * cats_word categories names

abbrev pub kind_from : List (List ℕ) → List RawConfig → RawKind → Kind
kind_from categories configs k = record {
  name = k.name;
  class = k.class;
  group = k.group;
  asset_type = k.asset_type;
  policy = k.policy;
  config = config_number configs k.config;
  cats = record { 0 = cats_word categories k.categories };
  controller = k.controller;
}

-- ---- rules

-- the schema's format has rules of this form
abbrev pub is_allowed : Format → RawRule → Bool
is_allowed format (raw.JunctionEdge junction terminal edge) = true
is_allowed format (raw.JunctionJunction first first_terminal second second_terminal) = true
is_allowed format (raw.Containment container content) = true
is_allowed format (raw.Attachment structure content) = true
is_allowed One (raw.EdgeJunctionEdge edge terminal junction other other_terminal) = false
is_allowed Two (raw.EdgeJunctionEdge edge terminal junction other other_terminal) = true

-- the numbers of two kinds with these names
abbrev pub both : Catalog → List ℕ → List ℕ → Option (ℕ × ℕ)
both S x y = option_and_then (λ a. option_map (λ b. (a, b)) (kind_named S y)) (kind_named S x)

-- the rule with kinds by number, where all kinds are known
abbrev pub numbered : Catalog → RawRule → Option Rule
numbered S (raw.JunctionEdge junction terminal edge) = option_map (λ k. JunctionEdge k.0 terminal k.1) (both S junction edge)
numbered S (raw.JunctionJunction first first_terminal second second_terminal) =
    option_map (λ k. JunctionJunction k.0 first_terminal k.1 second_terminal) (both S first second)
numbered S (raw.Containment container content) = option_map (λ k. Containment k.0 k.1) (both S container content)
numbered S (raw.Attachment structure content) = option_map (λ k. Attachment k.0 k.1) (both S structure content)
numbered S (raw.EdgeJunctionEdge edge terminal junction other other_terminal) =
    option_and_then (λ e. option_map (λ k. EdgeJunctionEdge e terminal k.0 k.1 other_terminal) (both S junction other)) (kind_named S edge)

-- the rule that may stand over the kinds
abbrev pub rule_from : Format → Catalog → RawRule → Option Rule
rule_from format S rule =
    if is_allowed format rule then option_and_then (λ r. if fits S r then Some r else None) (numbered S rule) else None

abbrev pub are_rules : Format → Catalog → List RawRule → Bool
are_rules format S rules = nat_le (length rules) 4096 && list_all (λ rule. is_some (rule_from format S rule)) rules

-- ---- the schema

-- all but its rules
abbrev pub kinds_from : RawSchema → Catalog
kinds_from s = record {
  attributes = items_of s.attributes;
  categories = items_of s.categories;
  configs = map config_from (items_of s.configs);
  kinds = map (kind_from (items_of s.categories) (items_of s.configs)) (items_of s.kinds);
  rules = [];
}

abbrev pub catalog_from : RawSchema → Catalog
catalog_from s = record (kinds_from s) { rules = filter_map (rule_from s.format (kinds_from s)) (items_of s.rules) }

-- each member is there and good
abbrev pub good_attributes : RawSchema → Bool
good_attributes s = has (are_named (λ name. name) 0 32) s.attributes

abbrev pub good_categories : RawSchema → Bool
good_categories s = has (are_named (λ name. name) 0 32) s.categories

abbrev pub good_configs : RawSchema → Bool
good_configs s = has are_configs s.configs

abbrev pub good_kinds : RawSchema → Bool
good_kinds s = has (are_kinds (items_of s.categories) (items_of s.configs)) s.kinds

abbrev pub good_rules : RawSchema → Bool
good_rules s = has (are_rules s.format (kinds_from s)) s.rules

-- the members in the order in which they are looked at
abbrev pub members : RawSchema → List (Place × Bool)
members s =
    (Attributes, good_attributes s) ∷ (Categories, good_categories s) ∷ (Configs, good_configs s) ∷ (Kinds, good_kinds s)
    ∷ (Rules, good_rules s) ∷ []

-- the place of the first that is not good
abbrev pub first_bad : List (Place × Bool) → Option Place
first_bad [] = None
first_bad (member ∷ others) = if member.1 then first_bad others else Some member.0

abbrev pub bad_place : RawSchema → Option Place
bad_place s = first_bad (members s)
