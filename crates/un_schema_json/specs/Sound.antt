-- What is to be shown of the schema that a line is.
use Rattle.std.specs.Prelude.{◌≡◌, ℕ, List, Ok}
use Rattle.un_schema.specs.Catalog.{Catalog}
use Rattle.un_schema.specs.Sound.{IsCatalog}
use Rattle.un_tiers.specs.declared.tier.Tier.{Tier}
use Rattle.un_schema_json.specs.Lines.{schema_of}

-- it is a catalog as each is
abbrev pub SchemaLaw : Type 0
SchemaLaw = (line : List ℕ) (schema : Catalog × List Tier) → schema_of line ≡ Ok schema → IsCatalog schema.0
