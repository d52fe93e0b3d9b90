-- What a row names by number, which its schema has.
use Rattle.std.specs.Prelude.{ℕ, ◌<◌, ℤ, List, length, All, IfSome}
use Rattle.un_schema.specs.Catalog.{Catalog, path_names}
use Rattle.un_defs.specs.declared.row.Row.{Row}

-- each attribute of a list has a name
abbrev pub HasAttributes : Catalog → List (ℕ × ℤ) → Type 0
HasAttributes S attrs = All (λ pair. pair.0 < length S.attributes) attrs

-- the same of each row
abbrev pub HaveAttributes : Catalog → List Row → Type 0
HaveAttributes S rows = All (λ r. HasAttributes S r.attrs) rows

-- the schema has what a row names by number
pub record HasNames (S : Catalog) (r : Row) : Type 0 where
  pub kind : r.kind < length S.kinds
  pub path : IfSome r.path (λ path. path < length (path_names S r.kind))
  pub attributes : HasAttributes S r.attrs
