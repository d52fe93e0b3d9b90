-- What the text of a value is read back as.
use Rattle.std.specs.Prelude.{◌≡◌, ℕ, ◌^◌, ◌<◌, Bool, true, nat_lt, nat_le, nat_abs, if◌then◌else◌, List, Some, IsTrue, IsUtf8, ⊤}
use Rattle.serde_json.specs.Data.{Num, unsigned, negative, float, Data, null, boolean, number, string, array, object, Items, no_items, item, Members, no_members, member}
use Rattle.serde_json.specs.Find.{to_float}
use Rattle.serde_json.specs.Read.{read, max_depth}
use Rattle.serde_json.specs.Written.{compact_text}
use Rattle.un_values.specs.Formed.{IsFormedTo}

-- ---- numbers

-- whether a `u64` or an `i64` holds the number
abbrev pub has_64_bits : Num → Bool
has_64_bits (unsigned n) = nat_lt n (2 ^ 64)
has_64_bits (negative z) = nat_le (nat_abs z) (2 ^ 63)
has_64_bits (float x) = true

-- A number as it is read: itself where it has at most 64 bits, and else the nearest float.
abbrev pub number_read : Num → Num
number_read n = if has_64_bits n then n else float (to_float n)

abbrev pub magnitude : Num → ℕ
magnitude (unsigned n) = n
magnitude (negative z) = nat_abs z
magnitude (float x) = 0

abbrev pub Has64Bits : Num → Type 0
Has64Bits n = IsTrue (has_64_bits n)

-- at most 128 bits beside the sign, as each number that a `u64` or an `i128` holds
abbrev pub Has128Bits : Num → Type 0
Has128Bits n = magnitude n < 2 ^ 128

-- ---- values

-- a value as it is read: each number in it as it is read
abbrev mutual
  pub value_read : Data → Data
  value_read null = null
  value_read (boolean b) = boolean b
  value_read (number n) = number (number_read n)
  value_read (string s) = string s
  value_read (array ds) = array (items_read ds)
  value_read (object ms) = object (members_read ms)

  pub items_read : Items → Items
  items_read no_items = no_items
  items_read (item d ds) = item (value_read d) (items_read ds)

  pub members_read : Members → Members
  members_read no_members = no_members
  members_read (member k d ms) = member k (value_read d) (members_read ms)

-- P holds of each number in the value
abbrev mutual
  pub EachNumber : (Num → Type 0) → Data → Type 0
  EachNumber P null = ⊤
  EachNumber P (boolean b) = ⊤
  EachNumber P (number n) = P n
  EachNumber P (string s) = ⊤
  EachNumber P (array ds) = EachItemNumber P ds
  EachNumber P (object ms) = EachMemberNumber P ms

  pub EachItemNumber : (Num → Type 0) → Items → Type 0
  EachItemNumber P no_items = ⊤
  EachItemNumber P (item d ds) = EachNumber P d × EachItemNumber P ds

  pub EachMemberNumber : (Num → Type 0) → Members → Type 0
  EachMemberNumber P no_members = ⊤
  EachMemberNumber P (member k d ms) = EachNumber P d × EachMemberNumber P ms

-- P holds of each text in the value, and of the name of each member
abbrev mutual
  pub EachText : (List ℕ → Type 0) → Data → Type 0
  EachText P null = ⊤
  EachText P (boolean b) = ⊤
  EachText P (number n) = ⊤
  EachText P (string s) = P s
  EachText P (array ds) = EachItemText P ds
  EachText P (object ms) = EachMemberText P ms

  pub EachItemText : (List ℕ → Type 0) → Items → Type 0
  EachItemText P no_items = ⊤
  EachItemText P (item d ds) = EachText P d × EachItemText P ds

  pub EachMemberText : (List ℕ → Type 0) → Members → Type 0
  EachMemberText P no_members = ⊤
  EachMemberText P (member k d ms) = P k × (EachText P d × EachMemberText P ms)

-- ---- laws

-- the compact text of a formed value of at most as many levels as are read, whose numbers have at most 64 bits, is read back as the value
abbrev pub ReadBackLaw : Type 0
ReadBackLaw = (d : Data) → IsFormedTo max_depth d → EachNumber Has64Bits d → read (compact_text d) ≡ Some d

-- the same where numbers have more than 64 bits: they are read as the nearest floats
abbrev pub WideReadBackLaw : Type 0
WideReadBackLaw = (d : Data) → IsFormedTo max_depth d → EachNumber Has128Bits d → read (compact_text d) ≡ Some (value_read d)

-- the text is UTF-8 where the texts in the value are
abbrev pub Utf8Law : Type 0
Utf8Law = (d : Data) → EachText IsUtf8 d → IsUtf8 (compact_text d)
