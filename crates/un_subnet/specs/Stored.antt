-- The stored rows of subnetworks, in the order of their updates.
use Rattle.std.specs.Prelude.{ℕ, List, ◌++◌, find, All, Option, option_to_list, if◌then◌else◌}
use Rattle.std.specs.List.Sorted.{IsStrictlySortedBy}
use Rattle.un_geom.specs.Places.{point_cmp}
use Rattle.un_ask.specs.declared.stored.StoredSubnet.{StoredSubnet}
use Rattle.un_ask.specs.declared.stored.Status.{Status}
use Rattle.un_ask.specs.declared.stored.Status.TheVariants.{Dirty}
use Rattle.un_subnet.specs.Changes.{Changed, is_made_dirty}
use Rattle.un_subnet.specs.Outcome.{is_row_of, other_rows}

-- the row of a subnetwork, if one is stored
abbrev pub row_for : List StoredSubnet → ℕ → List ℕ → Option StoredSubnet
row_for rows tier subnet = find (is_row_of tier subnet) rows

-- a row under another status
abbrev pub under : StoredSubnet × Status → StoredSubnet
under pair = record pair.0 { status = pair.1 }

-- the rows with this one in place of that of a subnetwork, or without it
abbrev pub with_row : List StoredSubnet → ℕ → List ℕ → Option StoredSubnet → List StoredSubnet
with_row rows tier subnet row = other_rows rows tier subnet ++ option_to_list row

-- a row once stars have changed
abbrev pub marked : Changed → StoredSubnet → StoredSubnet
marked changes row = if is_made_dirty row.tier row.subnet row.points changes then record row { status = Dirty } else row

-- the points of each row are in order
abbrev pub AreOrdered : List StoredSubnet → Type 0
AreOrdered rows = All (λ row. IsStrictlySortedBy point_cmp row.points) rows
