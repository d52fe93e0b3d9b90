-- The points of stored rows stay in order.
use Rattle.std.proofs.Common.{ℕ, Bool, true, false, not, List, [], map, Option, None, Some, IfSome, if◌then◌else◌, arith}
use Rattle.std.specs.Prelude.{option_to_list}
use Rattle.std.specs.List.Sorted.{IsStrictlySortedBy}
use Rattle.std.proofs.lemmas.List.Elements.{All-append, All-push, All-filter, All-map, All-weaker}
use Rattle.un_geom.specs.Places.{point_cmp}
use Rattle.un_ask.specs.declared.stored.StoredSubnet.{StoredSubnet}
use Rattle.un_ask.specs.declared.stored.Status.TheVariants.{Dirty}
use Rattle.un_subnet.specs.Changes.{Changed, is_made_dirty}
use Rattle.un_subnet.specs.Outcome.{is_row_of, other_rows}
use Rattle.un_subnet.specs.Stored.{marked, with_row, AreOrdered}

-- the points of a row are in order
abbrev pub IsOrdered : StoredSubnet → Type 0
IsOrdered row = IsStrictlySortedBy point_cmp row.points

marked_points : (changes : Changed) (row : StoredSubnet) → IsOrdered row → IsOrdered (marked changes row)
marked_points changes row ordered = go (is_made_dirty row.tier row.subnet row.points changes)
  where
    go : (b : Bool) → IsOrdered (if b then record row { status = Dirty } else row)
    go true = ordered
    go false = ordered

pub marked_ordered : (changes : Changed) (rows : List StoredSubnet) → AreOrdered rows → AreOrdered (map (marked changes) rows)
marked_ordered changes rows ordered =
    All-map IsOrdered (marked changes) rows (All-weaker IsOrdered (λ row. IsOrdered (marked changes row)) (λ row is. marked_points changes row is) rows ordered)

one_ordered : (row : Option StoredSubnet) → IfSome row IsOrdered → AreOrdered (option_to_list row)
one_ordered None ordered = λ i d l. absurd (omega arith)
one_ordered (Some row) ordered = All-push IsOrdered [] row (λ i d l. absurd (omega arith)) ordered

pub with_row_ordered : (rows : List StoredSubnet) (tier : ℕ) (subnet : List ℕ) (row : Option StoredSubnet) → AreOrdered rows → IfSome row IsOrdered → AreOrdered (with_row rows tier subnet row)
with_row_ordered rows tier subnet row ordered one =
    All-append IsOrdered (other_rows rows tier subnet) (option_to_list row)
    (All-filter (λ row. not (is_row_of tier subnet row)) IsOrdered rows ordered) (one_ordered row one)
