-- Lists of pairs in the order of their keys, and what rows of shared values and of shared parts stand for.
use Rattle.std.specs.Prelude.{◌≡◌, ℕ, ◌<◌, ◌≤◌, Bool, true, false, not, List, [], ◌∷◌, map, take, drop, length, slice_get, IfSome, suc, ◌++◌}
use Rattle.std.specs.declared.cmp.Ordering.{Ordering}
use Rattle.std.specs.declared.cmp.Ordering.TheVariants.{Less, Equal}
use Rattle.std.specs.declared.ops.Bound.{Bound}
use Rattle.std.specs.declared.ops.Bound.TheVariants.{Included, Excluded, Unbounded}
use Rattle.std.specs.Prelude.{Option, None, Some}
use Rattle.std.specs.Ordering.{is_lt}
use Rattle.std.specs.List.{flat_map, filter, AllByRecursion}
use Rattle.std.specs.List.Sorted.{IsStrictlySortedBy}
use Rattle.std.specs.Map.{keys_of}
use Rattle.std.specs.Option.{option_map}
use Rattle.std.specs.Range.Bound.{MatchBound}
use denote.Ref.{Bor}
use Rattle.std.specs.declared.sync.Arc.{Arc}

-- the pairs of a row, each value as what its `Arc` holds
abbrev pub pairs_of : {K X Z : Type 0} → List (K × Arc X Z) → List (K × X)
pairs_of = map (λ p. (p.0, p.1.value))

-- an entry, its value as what its `Arc` holds
abbrev pub pair_of : {K X Z : Type 0} → K × Arc X Z → K × X
pair_of p = (p.0, p.1.value)

-- the pairs of all parts, one part after another
abbrev pub flat : {K T V : Type 0} → (T → List (K × V)) → List (K × T) → List (K × V)
flat pairs = flat_map (λ p. pairs p.1)

-- the key of the first pair
abbrev pub first_key : {K V : Type 0} → List (K × V) → Option K
first_key [] = None
first_key (p ∷ ps) = Some p.0

module _ {K V : Type 0} (cmp : K → K → Ordering) where
  -- each key is below those after it
  abbrev pub IsOrdered : List (K × V) → Type 0
  IsOrdered ps = IsStrictlySortedBy cmp (keys_of ps)

  -- each key of the list is above the key
  abbrev pub IsAbove : K → List (K × V) → Type 0
  IsAbove key ps = AllByRecursion (λ k. cmp key k ≡ Less) (keys_of ps)

  -- each key of the list is below the key
  abbrev pub IsBelow : List (K × V) → K → Type 0
  IsBelow ps key = AllByRecursion (λ k. cmp k key ≡ Less) (keys_of ps)

-- the place i has a key equal to the one sought; smaller keys stand before it, greater ones after it
pub record IsFound {K X : Type 0} (cmp : K → K → Ordering) (row : List (K × X)) (key : K) (i : ℕ) : Type 0 where
  pub within : i < length row
  pub before : IsBelow cmp (take i row) key
  pub equal : IfSome (slice_get row i) (λ p. cmp key p.0 ≡ Equal)
  pub after : IsAbove cmp key (drop (suc i) row)

-- the key would go at place i: smaller keys before it, and greater ones from it on
pub record IsGap {K X : Type 0} (cmp : K → K → Ordering) (row : List (K × X)) (key : K) (i : ℕ) : Type 0 where
  pub within : i ≤ length row
  pub before : IsBelow cmp (take i row) key
  pub after : IsAbove cmp key (drop i row)

-- the part at place i is the only one that may have the key: the parts after it begin above the key, and it does not, unless it is the first
pub record IsPlace {K X : Type 0} (cmp : K → K → Ordering) (row : List (K × X)) (key : K) (i : ℕ) : Type 0 where
  pub within : i < length row
  pub reached : 0 < i → IfSome (slice_get row i) (λ p. is_lt (cmp key p.0) ≡ false)
  pub after : IsAbove cmp key (drop (suc i) row)

-- each part stands beside its first key
abbrev pub HasFirstKeys : {K T V : Type 0} → (T → List (K × V)) → List (K × T) → Type 0
HasFirstKeys pairs = AllByRecursion (λ p. first_key (pairs p.1) ≡ Some p.0)

-- a row of parts: some part, each beside its first key, and the pairs of all in the order of their keys
pub record IsGrown {K T V : Type 0} (cmp : K → K → Ordering) (pairs : T → List (K × V)) (row : List (K × T)) : Type 0 where
  pub some : 0 < length row
  pub leads : HasFirstKeys pairs row
  pub ordered : IsOrdered cmp (flat pairs row)

-- whether a key comes after the bound, where there is one
abbrev pub is_past : {K : Type 0} → (K → K → Ordering) → Option K → K → Bool
is_past cmp None k = true
is_past cmp (Some after) k = is_lt (cmp after k)

-- the pairs whose key is over the bound, or all
abbrev pub past : {K V : Type 0} → (K → K → Ordering) → Option K → List (K × V) → List (K × V)
past cmp after = filter (λ p. is_past cmp after p.0)

-- whether a key is one of those that a bound lets begin: from the bound on, or after it
abbrev pub is_reached : {K : Type 0} → (K → K → Ordering) → Bound K → K → Bool
is_reached cmp (Included first) k = not (is_lt (cmp k first))
is_reached cmp (Excluded before) k = is_lt (cmp before k)
is_reached cmp Unbounded k = true

-- the pairs from the bound on
abbrev pub from_on : {K V : Type 0} → (K → K → Ordering) → Bound K → List (K × V) → List (K × V)
from_on cmp bound = filter (λ p. is_reached cmp bound p.0)

-- the part at place i is the first that may have a key from the bound on
pub record IsStart {K X : Type 0} (cmp : K → K → Ordering) (row : List (K × X)) (bound : Bound K) (i : ℕ) : Type 0 where
  pub within : i < length row
  pub place : MatchBound bound (λ key. IsPlace cmp row key i) (λ key. IsPlace cmp row key i) (i ≡ 0)

-- the pairs of a node that may be there
abbrev pub left : {T V : Type 0} → (T → List V) → Option T → List V
left pairs None = []
left pairs (Some t) = pairs t

-- the pairs of one node or two
abbrev pub spread : {T V : Type 0} → (T → List V) → T × Option T → List V
spread pairs r = pairs r.0 ++ left pairs r.1

-- what a key beside a reference to a shared value shows
abbrev pub pair_held : {K V Z : Type 0} → K × Bor (Arc V Z) → K × V
pair_held p = (p.0, p.1.now.value)

abbrev pub held : {K V Z : Type 0} → Option (K × Bor (Arc V Z)) → Option (K × V)
held = option_map pair_held

abbrev pub value_held : {V Z : Type 0} → Option (Bor (Arc V Z)) → Option V
value_held = option_map (λ r. r.now.value)

-- a page: 1 to 32 pairs in the order of their keys
pub record IsPage {K V : Type 0} (cmp : K → K → Ordering) (row : List (K × V)) : Type 0 where
  pub some : 0 < length row
  pub bound : length row ≤ 32
  pub ordered : IsOrdered cmp row

-- a block or a shelf: 1 to 32 parts
pub record IsBranch {K T V : Type 0} (cmp : K → K → Ordering) (pairs : T → List (K × V)) (row : List (K × T)) : Type 0 where
  pub bound : length row ≤ 32
  pub grown : IsGrown cmp pairs row

-- one or two parts that have the pairs, each beside its first key
pub record IsSeated {K T V : Type 0} (pairs : T → List (K × V)) (all : List (K × V)) (row : List (K × T)) : Type 0 where
  pub flat_is : flat pairs row ≡ all
  pub leads : HasFirstKeys pairs row
  pub some : 0 < length row
  pub bound : length row ≤ 2

-- what is left of a row of n parts: each beside its first key, and in order
pub record IsChanged {K T V : Type 0} (cmp : K → K → Ordering) (pairs : T → List (K × V)) (n : ℕ) (row : List (K × T)) : Type 0 where
  pub leads : HasFirstKeys pairs row
  pub ordered : IsOrdered cmp (flat pairs row)
  pub bound : length row ≤ n

-- the pairs under a root list that may be there
abbrev pub all_of : {V Z : Type 0} → Option (Arc (List V) Z) → List V
all_of None = []
all_of (Some a) = a.value

-- pairs in the order of their keys, and how many
pub record IsCounted {K V : Type 0} (cmp : K → K → Ordering) (ps : List (K × V)) (n : ℕ) : Type 0 where
  pub ordered : IsOrdered cmp ps
  pub count : n ≡ length ps
