-- The catalog that a schema in memory is.
use Rattle.std.specs.Prelude.{map}
use Rattle.std.specs.Arc.{arc_value}
use Rattle.un_schema.specs.declared.schema.Schema.TheInside.{Inside}
use Rattle.un_schema.specs.Catalog.{Catalog, path_set}

abbrev pub catalog_in : Inside → Catalog
catalog_in s = record {
  attributes = (arc_value s.table).attributes.items;
  categories = (arc_value s.table).categories.items;
  configs = map path_set (arc_value s.table).configs.items;
  kinds = (arc_value s.table).kinds.items;
  rules = s.rules;
}
