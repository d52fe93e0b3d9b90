-- The forms of the parts of which a schema's lists are made: what a JSON value is, if it has the form.
-- Which of those parts are good is said where schemas and tiers are judged.
use Rattle.std.specs.Prelude.{ℕ, ◌==◌, Bool, List, [], ◌∷◌, length, Option, None, Some, option_and_then, option_map, if◌then◌else◌, codes}
use Rattle.std.specs.Str.{bytes_eq}
use Rattle.serde_json.specs.Data.{Data, Items, no_items, item}
use Rattle.serde_json.specs.Find.{as_str, as_bool, as_array}
use Rattle.un_conds.specs.Conditions.{Condition}
use Rattle.un_schema.specs.declared.kind.Class.{Class}
use Rattle.un_schema.specs.declared.kind.Class.TheVariants.{Device, Junction, Line, Assembly, Structure}
use Rattle.un_schema.specs.declared.kind.Policy.{Policy}
use Rattle.un_schema.specs.declared.kind.Policy.TheVariants.{EndVertex, AnyVertex, NoLine}
use Rattle.un_schema.specs.declared.raw.RawConfig.{RawConfig}
use Rattle.un_schema.specs.declared.raw.RawPath.{RawPath}
use Rattle.un_schema.specs.declared.raw.RawKind.{RawKind}
use Rattle.un_schema.specs.declared.raw.RawRule.{RawRule}
use Rattle.un_schema.specs.declared.raw.RawRule.TheVariants as raw
use Rattle.un_tiers.specs.Raw.{WrittenTier}
use Rattle.un_ask.specs.declared.rule.NamedRule.{NamedRule}
use Rattle.un_ask.specs.declared.rule.NamedRule.TheVariants as named
use Rattle.un_json.specs.Forms.{count_from_to, terminal_of, list_of, list_from_to, pair_of, barriers_of, rule_of as named_rule_of}
use Rattle.un_schema_json.specs.declared.kind.Marks.{Marks}

-- what is made of the parts so far takes one part more, if that has its form
infixl 10 ◌&◌
abbrev pub ◌&◌ : {A B : Type 0} → Option (A → B) → Option A → Option B
None & a = None
Some f & None = None
Some f & Some a = Some (f a)

-- at most so many texts
abbrev pub texts : ℕ → Data → Option (List (List ℕ))
texts most = list_from_to 0 most as_str

-- ---- configurations

-- two terminals, each from 1 to 8
abbrev pub terminals_of : Data → Option (List ℕ)
terminals_of d = option_and_then (pair_of (λ a b. a ∷ b ∷ []) terminal_of terminal_of) (as_array d)

abbrev pub path : List ℕ → List (List ℕ) → RawPath
path name pairs = record { name = name; pairs = pairs }

-- [name, pairs]
abbrev pub path_of : Data → Option RawPath
path_of d = option_and_then (pair_of path as_str (list_of terminals_of)) (as_array d)

abbrev pub config : List ℕ → Bool → List (List ℕ) → List RawPath → RawConfig
config name directional terminals paths = record { name = name; directional = directional; terminals = terminals; paths = paths }

abbrev pub config_parts : Data → Data → Data → Data → Option RawConfig
config_parts name directional terminals paths =
    Some config & as_str name & as_bool directional & texts 8 terminals & list_from_to 0 32 path_of paths

-- [name, directional, terminals, paths]
abbrev pub config_from : Items → Option RawConfig
config_from (item name (item directional (item terminals (item paths no_items)))) = config_parts name directional terminals paths
config_from _ = None

abbrev pub config_of : Data → Option RawConfig
config_of d = option_and_then config_from (as_array d)

-- ---- kinds

abbrev pub class_named : List ℕ → Option Class
class_named text =
    if bytes_eq text (codes "device") then Some Device
    else (if bytes_eq text (codes "junction") then Some Junction
    else (if bytes_eq text (codes "line") then Some Line
    else (if bytes_eq text (codes "assembly") then Some Assembly
    else (if bytes_eq text (codes "structure") then Some Structure else None))))

abbrev pub policy_named : List ℕ → Option Policy
policy_named text =
    if bytes_eq text (codes "end") then Some EndVertex
    else (if bytes_eq text (codes "any") then Some AnyVertex
    else (if length text == 0 then Some NoLine else None))

-- a group or a type
abbrev pub code_of : Data → Option ℕ
code_of = count_from_to 1 65535

abbrev pub marks : Class → ℕ → ℕ → Policy → Bool → Marks
marks class group asset_type policy controller =
    record { class = class; group = group; asset_type = asset_type; policy = policy; controller = controller }

abbrev pub marks_of : Data → Data → Data → Data → Data → Option Marks
marks_of class group asset_type policy controller =
    Some marks & option_and_then class_named (as_str class) & code_of group & code_of asset_type
    & option_and_then policy_named (as_str policy) & as_bool controller

abbrev pub kind : Marks → List ℕ → List ℕ → List (List ℕ) → RawKind
kind m name config categories = record {
  name = name;
  class = m.class;
  group = m.group;
  asset_type = m.asset_type;
  policy = m.policy;
  config = config;
  categories = categories;
  controller = m.controller;
}

abbrev pub kind_parts : Marks → Data → Data → Data → Option RawKind
kind_parts m name config categories = Some (kind m) & as_str name & as_str config & texts 32 categories

-- [name, class, group, type, policy, config, categories, controller]
abbrev pub kind_from : Items → Option RawKind
kind_from (item name (item class (item group (item asset_type (item policy (item config (item categories (item controller no_items)))))))) =
    option_and_then (λ m. kind_parts m name config categories) (marks_of class group asset_type policy controller)
kind_from _ = None

abbrev pub kind_of : Data → Option RawKind
kind_of d = option_and_then kind_from (as_array d)

-- ---- rules

abbrev pub raw_rule : NamedRule → RawRule
raw_rule (named.JunctionEdge junction terminal edge) = raw.JunctionEdge junction terminal edge
raw_rule (named.JunctionJunction first first_terminal second second_terminal) = raw.JunctionJunction first first_terminal second second_terminal
raw_rule (named.Containment container content) = raw.Containment container content
raw_rule (named.Attachment structure content) = raw.Attachment structure content
raw_rule (named.EdgeJunctionEdge edge terminal junction other other_terminal) = raw.EdgeJunctionEdge edge terminal junction other other_terminal

-- a rule in one of the five forms that it has in requests, too
abbrev pub rule_of : Data → Option RawRule
rule_of d = option_map raw_rule (named_rule_of d)

-- ---- tiers

abbrev pub tier : Bool → List ℕ → Option (Condition (List ℕ)) → WrittenTier
tier disjoint name barrier = record { name = name; barrier = barrier; disjoint = disjoint }

abbrev pub tier_parts : Data → Data → Data → Option WrittenTier
tier_parts name barrier disjoint = Some tier & as_bool disjoint & as_str name & barriers_of barrier

-- [name, condition or null, disjoint]
abbrev pub tier_from : Items → Option WrittenTier
tier_from (item name (item barrier (item disjoint no_items))) = tier_parts name barrier disjoint
tier_from _ = None

abbrev pub tier_of : Data → Option WrittenTier
tier_of d = option_and_then tier_from (as_array d)
