-- The rows of a store, and the pairs of id and row in which they stand.
use Rattle.std.specs.Prelude.{◌≡◌, ℕ, ◌==◌, Bool, ◌&&◌, List, map, filter, flat_map, find, Option}
use Rattle.std.specs.Ordering.{nat_cmp}
use Rattle.std.specs.List.Sorted.{IsStrictlySortedBy}
use Rattle.std.specs.Map.{keys_of, values_of}
use Rattle.un_pages.specs.Pairs.{IsOrdered}
use Rattle.un_geom.specs.declared.point.Point.{Point}
use Rattle.un_defs.specs.declared.row.Row.{Row}
use Rattle.un_defs.specs.Features.{is_line}

-- the ids of some rows
abbrev pub ids_of : List Row → List ℕ
ids_of rows = map (λ r. r.id) rows

-- each row stands under its id, and the ids rise
pub record IsKeyed (pairs : List (ℕ × Row)) : Type 0 where
  pub ordered : IsOrdered nat_cmp pairs
  pub ids : keys_of pairs ≡ ids_of (values_of pairs)

-- the ids of the rows rise
abbrev pub IsRising : List Row → Type 0
IsRising rows = IsStrictlySortedBy nat_cmp (ids_of rows)

-- the row with this id
abbrev pub row_with : List Row → ℕ → Option Row
row_with rows id = find (λ r. r.id == id) rows

-- the row is a line of the kind
abbrev pub is_line_of : ℕ → Row → Bool
is_line_of kind r = is_line r.class && (r.kind == kind)

-- the points of the lines of a kind
abbrev pub line_points : ℕ → List Row → List Point
line_points kind rows = flat_map (λ r. r.shape) (filter (is_line_of kind) rows)
