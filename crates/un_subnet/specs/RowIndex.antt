-- The stored rows by their numbers, and the keys under which a row is looked up.
use Rattle.std.specs.Prelude.{ℕ, ◌+◌, ◌*◌, ◌^◌, ◌%◌, ◌<◌, ◌==◌, ◌≡◌, Bool, false, not, ◌&&◌, if◌then◌else◌, List, ◌∷◌, ◌++◌, map, filter, find, flat_map, fold, Option}
use Rattle.std.specs.List.{list_any, AllByRecursion}
use Rattle.std.specs.Map.{values_of}
use Rattle.un_geom.specs.Places.{same_point}
use Rattle.un_ask.specs.declared.stored.StoredSubnet.{StoredSubnet}
use Rattle.un_ask.specs.declared.stored.Status.TheVariants.{Dirty}
use Rattle.un_subnet.specs.declared.row_index.Subject.{Subject}
use Rattle.un_subnet.specs.declared.row_index.Subject.TheVariants.{Subnet, At}
use Rattle.un_subnet.specs.declared.row_index.Key.{Key}
use Rattle.un_subnet.specs.Changes.{Changed}
use Rattle.un_subnet.specs.Outcome.{is_row_of}
use Rattle.un_subnet.specs.Stored.{AreOrdered}

-- ---- what concerns a row

-- a hash with one more byte
unfoldable pub mixed : ℕ → ℕ → ℕ
mixed hash byte = ((hash * 1_099_511_628_211) % 2 ^ 64 + byte) % 2 ^ 64

-- the hash of a subnetwork's tier and name
abbrev pub name_hash : ℕ → List ℕ → ℕ
name_hash tier subnet = fold mixed tier subnet

abbrev pub subnet_subject : ℕ → List ℕ → Subject
subnet_subject tier subnet = Subnet (name_hash tier subnet)

abbrev pub same_subject : Subject → Subject → Bool
same_subject (Subnet a) (Subnet b) = a == b
same_subject (Subnet a) (At q) = false
same_subject (At p) (Subnet b) = false
same_subject (At p) (At q) = same_point p q

-- the row's subnetwork, and its points
abbrev pub subjects : StoredSubnet → List Subject
subjects row = subnet_subject row.tier row.subnet ∷ map At row.points

abbrev pub concerns : Subject → StoredSubnet → Bool
concerns s row = list_any (same_subject s) (subjects row)

-- ---- the keys

abbrev pub same_key : Key → Key → Bool
same_key a b = same_subject a.subject b.subject && (a.number == b.number)

abbrev pub has_key : Key → List (Key × Unit {0}) → Bool
has_key q keys = list_any (λ k. same_key q k.0) keys

-- the numbers that stand under a subject
abbrev pub numbers_at : List (Key × Unit {0}) → Subject → List ℕ
numbers_at keys s = map (λ k. k.0.number) (filter (λ k. same_subject s k.0.subject) keys)

-- the row with this number is there, and the subject concerns it
abbrev pub is_concerned : Key → List (ℕ × StoredSubnet) → Bool
is_concerned q rows = list_any (λ e. (q.number == e.0) && concerns q.subject e.1) rows

-- each row has a key for each subject that concerns it, and there are no others
abbrev pub IsIndex : List (ℕ × StoredSubnet) → List (Key × Unit {0}) → Type 0
IsIndex rows keys = (q : Key) → has_key q keys ≡ is_concerned q rows

-- ---- the rows

-- the points of each row are in order, its number is below the next one, and the keys are its own
pub record AreKept (rows : List (ℕ × StoredSubnet)) (keys : List (Key × Unit {0})) (next : ℕ) : Type 0 where
  pub ordered : AreOrdered (values_of rows)
  pub below : AllByRecursion (λ e. e.0 < next) rows
  pub index : IsIndex rows keys

-- those with these numbers as f makes them
abbrev pub made_in : (StoredSubnet → StoredSubnet) → List ℕ → List (ℕ × StoredSubnet) → List (ℕ × StoredSubnet)
made_in f numbers rows = map (λ e. (e.0, if list_any (λ n. n == e.0) numbers then f e.1 else e.1)) rows

-- the numbers of those that pass a test
abbrev pub numbers_with : (StoredSubnet → Bool) → List (ℕ × StoredSubnet) → List ℕ
numbers_with p rows = map (λ e. e.0) (filter (λ e. p e.1) rows)

-- the numbers of those at the points that have changed, and of those of the controllers' subnetworks
abbrev pub changed_numbers : List (ℕ × StoredSubnet) → List (Key × Unit {0}) → Changed → List ℕ
changed_numbers rows keys changes =
    flat_map (λ p. numbers_at keys (At p)) changes.points ++ flat_map (λ c. numbers_with (is_row_of c.tier c.subnet) rows) changes.controllers

abbrev pub dirty : StoredSubnet → StoredSubnet
dirty row = record row { status = Dirty }

-- the first row of a subnetwork
abbrev pub found_row : List (ℕ × StoredSubnet) → ℕ → List ℕ → Option (ℕ × StoredSubnet)
found_row rows tier subnet = find (λ e. is_row_of tier subnet e.1) rows

-- the rows of other subnetworks
abbrev pub others_in : List (ℕ × StoredSubnet) → ℕ → List ℕ → List (ℕ × StoredSubnet)
others_in rows tier subnet = filter (λ e. not (is_row_of tier subnet e.1)) rows
