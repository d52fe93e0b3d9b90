-- Cells of the plane, and the numbers of the areas in them.
use Rattle.std.specs.Prelude.{◌≡◌, ◌≢◌, ℕ, ◌-◌, ◌/◌, ◌^◌, ◌<◌, ◌≤◌, min, max, ℤ, pos, neg_ℤ, ◌-ℤ◌, unsigned_abs, Bool, true, false, List, Option, None, Some}
use Rattle.std.specs.declared.cmp.Ordering.{Ordering}
use Rattle.std.specs.Ordering.{nat_cmp, is_eq, ordering_then}
use Rattle.std.specs.Int.{leading_zeros, w32}
use Rattle.std.specs.List.{AllByRecursion}
use Rattle.std.specs.Map.{lookup}
use Rattle.std.specs.BTreeMap.{is_at}
use Rattle.un_geom.specs.declared.point.Point.{Point}
use Rattle.un_geom.specs.Rectangle.{Rectangle}
use Rattle.un_geom.specs.Places.{covers}
use Rattle.un_dirty.specs.declared.cells.Cell.{Cell}
use Rattle.un_dirty.specs.declared.cells.Entry.{Entry}
use Rattle.un_dirty.specs.Areas.{IsUnder}

-- the numbers of areas in cells, as the keys of a map, with their rectangles
abbrev pub CellMap : Type 0
CellMap = List (Entry × Rectangle)

-- cells compare by level, then column, then row
abbrev pub cell_cmp : Cell → Cell → Ordering
cell_cmp a b = ordering_then (nat_cmp a.level b.level) (ordering_then (nat_cmp a.column b.column) (nat_cmp a.row b.row))

-- entries compare by cell, then number
abbrev pub entry_cmp : Entry → Entry → Ordering
entry_cmp a b = ordering_then (cell_cmp a.cell b.cell) (nat_cmp a.number b.number)

abbrev pub same_cell : Cell → Cell → Bool
same_cell a b = is_eq (cell_cmp a b)

abbrev pub entry_of : Cell → ℕ → Entry
entry_of k n = record { cell = k; number = n }

-- the least entry of a cell
abbrev pub first_entry : Cell → Entry
first_entry k = entry_of k 0

-- the number is in the cell, with the rectangle
abbrev pub IsIn : Cell → ℕ → Rectangle → CellMap → Type 0
IsIn k n r cells = lookup (is_at (entry_cmp (entry_of k n))) cells ≡ Some r

-- each number stays in its cells with its rectangle, but that of one area only with the area's rectangle
abbrev pub KeepsFor : ℕ → Rectangle → CellMap → CellMap → Type 0
KeepsFor area r old new = (k : Cell) → (n : ℕ) → (s : Rectangle) → (n ≡ area → s ≡ r) → IsIn k n s old → IsIn k n s new

-- each number below one stays in its cells with its rectangle
abbrev pub KeepsBelow : ℕ → CellMap → CellMap → Type 0
KeepsBelow first old new = (k : Cell) → (n : ℕ) → (s : Rectangle) → n < first → IsIn k n s old → IsIn k n s new

-- each number but one stays in its cells with its rectangle
abbrev pub KeepsOthers : ℕ → CellMap → CellMap → Type 0
KeepsOthers area old new = (k : Cell) → (n : ℕ) → (s : Rectangle) → n ≢ area → IsIn k n s old → IsIn k n s new

-- each number but those of some areas stays in its cells with its rectangle
abbrev pub KeepsBut : List (ℕ × Rectangle) → CellMap → CellMap → Type 0
KeepsBut gone old new = (k : Cell) → (n : ℕ) → (s : Rectangle) → AllByRecursion (λ a. n ≢ a.0) gone → IsIn k n s old → IsIn k n s new

-- the number is in each cell of a row with the rectangle, from one cell to a column
abbrev pub FillsRow : ℕ → Rectangle → Cell → ℕ → CellMap → Type 0
FillsRow area r first last cells = (k : Cell) → k.level ≡ first.level → first.column ≤ k.column → k.column ≤ last → k.row ≡ first.row → IsIn k area r cells

-- the number is in each cell with the rectangle, from one corner to the other
abbrev pub FillsBlock : ℕ → Rectangle → Cell → Cell → CellMap → Type 0
FillsBlock area r low high cells = (k : Cell) → k.level ≡ low.level → low.column ≤ k.column → k.column ≤ high.column → low.row ≤ k.row → k.row ≤ high.row → IsIn k area r cells

-- the level of a rectangle: the least one whose cells are longer than its longer side, and at most 19
unfoldable pub level_of : Rectangle → ℕ
level_of r = min (32 - leading_zeros w32 (max (unsigned_abs (r.x1 -ℤ r.x0)) (unsigned_abs (r.y1 -ℤ r.y0)) / 4096)) 19

-- the column of an x, or the row of a y: cells of level 0 have sides of 4,096 mm, and those of each further level twice as long ones
unfoldable pub cell_index : ℕ → ℤ → ℕ
cell_index level n = (unsigned_abs (n -ℤ neg_ℤ (pos 2147483648)) / 4096) / 2 ^ level

-- the cell of a level in which a point lies
abbrev pub cell_at : ℕ → Point → Cell
cell_at level p = record { level = level; column = cell_index level p.x; row = cell_index level p.y }

abbrev pub is_covered : Point → Option Rectangle → Bool
is_covered p None = false
is_covered p (Some r) = covers r p

-- the area with the number covers the point
abbrev pub covers_at : Point → ℕ → List (ℕ × Rectangle) → Bool
covers_at p n areas = is_covered p (lookup (is_at (nat_cmp n)) areas)

-- the lesser of two numbers, or the one that there is
abbrev pub lesser_of : Option ℕ → Option ℕ → Option ℕ
lesser_of None b = b
lesser_of (Some m) None = Some m
lesser_of (Some m) (Some n) = Some (min m n)

-- there is a number, and it is at most n
abbrev pub IsAtMost : Option ℕ → ℕ → Type 0
IsAtMost None n = ⊥
IsAtMost (Some m) n = m ≤ n

-- the number is in the cell, of the rectangle's level, of each point that the rectangle covers
abbrev pub FillsCells : ℕ → Rectangle → CellMap → Type 0
FillsCells area r cells = (p : Point) → covers r p ≡ true → IsIn (cell_at (level_of r) p) area r cells

-- no number in the cell whose rectangle there and whose area cover the point is less
abbrev pub IsLeastIn : Cell → Point → List (ℕ × Rectangle) → CellMap → Option ℕ → Type 0
IsLeastIn k p areas cells least = (n : ℕ) → (r : Rectangle) → IsIn k n r cells → covers r p ≡ true → covers_at p n areas ≡ true → IsAtMost least n

-- no number in the point's cells of so many levels whose rectangle there and whose area cover the point is less
abbrev pub IsLeastOver : ℕ → Point → List (ℕ × Rectangle) → CellMap → Option ℕ → Type 0
IsLeastOver levels p areas cells least = (level : ℕ) → (n : ℕ) → (r : Rectangle) → level < levels → IsIn (cell_at level p) n r cells → covers r p ≡ true → covers_at p n areas ≡ true → IsAtMost least n

-- the number of an area is in the cell, of the area's level, of each point that the area covers
pub record IsIndexed (cells : CellMap) (levels : ℕ) (a : ℕ × Rectangle) : Type 0 where
  pub low : level_of a.1 < levels
  pub all : (p : Point) → covers a.1 p ≡ true → IsIn (cell_at (level_of a.1) p) a.0 a.1 cells

-- what holds of the parts of each list of areas
pub record IsKept (areas : List (ℕ × Rectangle)) (next : ℕ) (cells : CellMap) (levels : ℕ) : Type 0 where
  pub under : IsUnder areas next
  pub few_levels : levels ≤ 20
  pub indexed : AllByRecursion (IsIndexed cells levels) areas
