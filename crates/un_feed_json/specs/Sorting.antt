-- Attributes with their names, as code sorts them.
use Rattle.std.specs.Prelude.{ℕ, ℤ, List}
use Rattle.un_feed_json.specs.declared.named.NamedValue.{NamedValue}

abbrev pub pair_of : NamedValue → List ℕ × ℤ
pair_of v = (v.name.now, v.value)
