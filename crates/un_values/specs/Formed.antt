-- The form of values that are read back from their text: whole numbers, members in byte order of their names, and a bounded depth.
use Rattle.std.specs.Prelude.{◌≡◌, ℕ, ◌≤◌, pos, negsuc, List, ⊤}
use Rattle.std.specs.declared.cmp.Ordering.TheVariants.{Less}
use Rattle.std.specs.Ordering.{nat_cmp}
use Rattle.std.specs.Cmp.Lexicographic.{slice_cmp}
use Rattle.serde_json.specs.Data.{Num, unsigned, negative, float, Data, null, boolean, number, string, array, object, Items, no_items, item, Members, no_members, member, depth}

-- a whole number, as `serde_json` tells those from 0 from those below
abbrev pub IsWhole : Num → Type 0
IsWhole (unsigned n) = ⊤
IsWhole (negative (pos n)) = ⊥
IsWhole (negative (negsuc n)) = ⊤
IsWhole (float x) = ⊥

-- the name stands before those of the members
abbrev pub IsBefore : List ℕ → Members → Type 0
IsBefore k no_members = ⊤
IsBefore k (member l d ms) = (slice_cmp nat_cmp k l ≡ Less) × IsBefore k ms

abbrev mutual
  pub IsFormed : Data → Type 0
  IsFormed null = ⊤
  IsFormed (boolean b) = ⊤
  IsFormed (number n) = IsWhole n
  IsFormed (string s) = ⊤
  IsFormed (array ds) = AreFormedItems ds
  IsFormed (object ms) = AreFormedMembers ms

  pub AreFormedItems : Items → Type 0
  AreFormedItems no_items = ⊤
  AreFormedItems (item d ds) = IsFormed d × AreFormedItems ds

  pub AreFormedMembers : Members → Type 0
  AreFormedMembers no_members = ⊤
  AreFormedMembers (member k d ms) = IsFormed d × (IsBefore k ms × AreFormedMembers ms)

-- with at most so many levels
pub record IsFormedTo (n : ℕ) (d : Data) : Type 0 where
  pub formed : IsFormed d
  pub shallow : depth d ≤ n
