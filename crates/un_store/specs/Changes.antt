-- What an edit of a row changes.
use Rattle.std.specs.Prelude.{ℕ, ◌==◌, not, List, filter}
use Rattle.std.specs.Ordering.{nat_cmp}
use Rattle.std.specs.BTreeSet.{replace_key}
use Rattle.un_defs.specs.declared.row.Row.{Row}
use Rattle.un_store.specs.declared.change.RowChange.{RowChange}
use Rattle.un_store.specs.declared.change.RowChange.TheVariants.{Put, Remove}

-- the rows with this one at its place by id, where it stands in for the one with its id, if there is one
abbrev pub with_row : List Row → Row → List Row
with_row rows row = replace_key (λ a b. nat_cmp a.id b.id) rows row

-- the rows once the change is made
abbrev pub applied : List Row → RowChange → List Row
applied rows (Put row) = with_row rows row
applied rows (Remove id) = filter (λ r. not (r.id == id)) rows

-- the id of the row that changes
abbrev pub id_of : RowChange → ℕ
id_of (Put row) = row.id
id_of (Remove id) = id
