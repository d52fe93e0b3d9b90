-- What is to be shown of a schema that is taken.
use Rattle.std.specs.Prelude.{◌≡◌, None}
use Rattle.un_schema.specs.declared.raw.RawSchema.{RawSchema}
use Rattle.un_schema.specs.Raw.{bad_place, catalog_from}
use Rattle.un_schema.specs.Sound.{IsCatalog}

-- a schema without a bad member stands for a catalog as each is
abbrev pub GoodSchemaLaw : Type 0
GoodSchemaLaw = (s : RawSchema) → bad_place s ≡ None → IsCatalog (catalog_from s)
