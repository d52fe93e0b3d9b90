-- Links between places, as a list of ends for each place.
use Rattle.std.specs.Prelude.{◌≡◌, ◌↔◌, ℕ, ◌<◌, ◌⊎◌, List, length, Some, slice_get, Contains}
use Rattle.smallvec.specs.SmallVec.{SmallVec}
use Rattle.un_defs.specs.declared.walk.Barriers.{Barriers}
use Rattle.un_walk.specs.declared.seen.Seen.{Seen}
use Rattle.un_isolate.specs.Entries.{IsStep}

-- a link leads from the first place to the second
abbrev pub HasLink : List (SmallVec ℕ) → ℕ → ℕ → Type 0
HasLink links i j = (ends : SmallVec ℕ) × (slice_get links i ≡ Some ends) × Contains ends.items j

-- each link leads to one of the places
abbrev pub LeadInside : List (SmallVec ℕ) → Type 0
LeadInside links = (i j : ℕ) → HasLink links i j → j < length links

-- the first k places have their links, by which walks go
pub record AreLinksOf (B : Barriers) (seen : List Seen) (links : List (SmallVec ℕ)) (k : ℕ) : Type 0 where
  pub count : length links ≡ k
  pub exact : (i j : ℕ) → HasLink links i j ↔ (i < k) × IsStep B seen i j

-- there is one link more
pub record AddsLink (old new : List (SmallVec ℕ)) (from to : ℕ) : Type 0 where
  pub count : length new ≡ length old
  pub kept : (i j : ℕ) → HasLink old i j → HasLink new i j
  pub added : HasLink new from to
  pub only : (i j : ℕ) → HasLink new i j → HasLink old i j ⊎ ((i ≡ from) × (j ≡ to))

-- there are more links, from each of some places to one
pub record AddsLinksTo (old new : List (SmallVec ℕ)) (from : List ℕ) (to : ℕ) : Type 0 where
  pub count : length new ≡ length old
  pub kept : (i j : ℕ) → HasLink old i j → HasLink new i j
  pub added : (i : ℕ) → Contains from i → HasLink new i to
  pub only : (i j : ℕ) → HasLink new i j → HasLink old i j ⊎ (Contains from i × (j ≡ to))

-- the links of the first k places, turned round
pub record AreTurned (links back : List (SmallVec ℕ)) (k : ℕ) : Type 0 where
  pub count : length back ≡ length links
  pub exact : (i j : ℕ) → HasLink back j i ↔ (i < k) × HasLink links i j
