-- What a change in place does to a node, and to a row of parts.
use Rattle.std.specs.Prelude.{◌≡◌, ℕ, ◌+◌, List, [], ◌∷◌, ◌++◌, Some, length, take, drop, slice_get, IsSome, IsNone}
use Rattle.std.specs.declared.cmp.Ordering.{Ordering}
use Rattle.std.specs.Map.{lookup, remove_entry}
use Rattle.std.specs.BTreeMap.{insert_entry, is_at}
use Rattle.un_pages.specs.declared.level.Put.{Put}
use Rattle.un_pages.specs.declared.level.Put.TheVariants.{Added, Replaced, Refused}
use Rattle.un_pages.specs.declared.level.Taken.{Taken}
use Rattle.un_pages.specs.declared.level.Taken.TheVariants.{Removed, Absent, Kept}
use Rattle.un_pages.specs.Pairs.{IsGrown, first_key}

module _ {S K V : Type 0} (cmp : K → K → Ordering) (pairs : S → List (K × V)) (old new : S) (key : K) where
  -- the value is at the key, which was new or not; or nothing has changed
  abbrev pub IsPut : V → Put → Type 0
  IsPut v Added = (pairs new ≡ insert_entry cmp (pairs old) key v) × IsNone (lookup (is_at (cmp key)) (pairs old))
  IsPut v Replaced = (pairs new ≡ insert_entry cmp (pairs old) key v) × IsSome (lookup (is_at (cmp key)) (pairs old))
  IsPut v Refused = new ≡ old

  -- the key is gone, or was not there; or nothing has changed
  abbrev pub IsTaken : Taken → Type 0
  IsTaken Removed = (pairs new ≡ remove_entry (is_at (cmp key)) (pairs old)) × IsSome (lookup (is_at (cmp key)) (pairs old))
  IsTaken Absent = (new ≡ old) × IsNone (lookup (is_at (cmp key)) (pairs old))
  IsTaken Kept = new ≡ old

-- a row of parts after a change in place: as many parts, each beside its first key, and in order
pub record IsKept {K T V : Type 0} (cmp : K → K → Ordering) (pairs : T → List (K × V)) (old new : List (K × T)) : Type 0 where
  pub grown : IsGrown cmp pairs new
  pub count : length new ≡ length old

-- one entry of a row has become another, and stands beside its first key
pub record IsChangedAt {K T V : Type 0} (pairs : T → List (K × V)) (old new : List (K × T)) (i : ℕ) (R : K × T → K × T → Type 0) : Type 0 where
  pub was : K × T
  pub now : K × T
  pub here : slice_get old i ≡ Some was
  pub set : new ≡ take i old ++ ((now ∷ []) ++ drop (i + 1) old)
  pub leads : first_key (pairs now.1) ≡ Some now.0
  pub change : R was now
