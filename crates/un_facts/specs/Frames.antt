-- What stays for the life of a network, with the rules in force, which grow.
use Rattle.std.specs.Prelude.{List, ◌∷◌, [], ◌++◌, Option}
use Rattle.std.specs.Option.{option_map_or}
use Rattle.un_schema.specs.declared.rule.Rule.{Rule}
use Rattle.un_schema.specs.Catalog.{Catalog}
use Rattle.un_tiers.specs.declared.setup.Setup.{Setup}

-- the schema and the tiers that a network was opened with, and the rules in force
pub record Framed : Type 0 where
  pub setup : Setup
  pub rules : List Rule

-- the schema with the rules in force
abbrev pub schema_of : Framed → Catalog
schema_of f = record f.setup.schema { rules = f.rules }

-- the rules of the schema that has grown, or else those that the network was opened with
abbrev pub rules_of : Setup → Option Catalog → List Rule
rules_of S grown = option_map_or (λ C. C.rules) grown S.schema.rules

-- one rule more
abbrev pub with_rule : Framed → Rule → Framed
with_rule f rule = record f { rules = f.rules ++ rule ∷ [] }
