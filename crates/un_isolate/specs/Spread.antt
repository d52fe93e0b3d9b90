-- The places that walks along links reach, by marks.
use Rattle.std.specs.Prelude.{◌≡◌, ℕ, ◌<◌, Bool, true, false, ◌⊎◌, List, ◌++◌, length, Some, slice_get, slice_index_or, Contains}
use Rattle.smallvec.specs.SmallVec.{SmallVec}
use Rattle.un_isolate.specs.declared.spread.Found.{Found}
use Rattle.un_isolate.specs.Links.{HasLink}

-- the mark on the place
abbrev pub mark_at : List Bool → ℕ → Bool
mark_at marks i = slice_index_or marks i false

-- the test holds of the marked starts, and goes on along links from places that are not closed
pub record GoesOn (links : List (SmallVec ℕ)) (starts closed : List Bool) (test : ℕ → Bool) : Type 0 where
  pub begun : (i : ℕ) → mark_at starts i ≡ true → test i ≡ true
  pub onward : (i j : ℕ) → test i ≡ true → mark_at closed i ≡ false → HasLink links i j → test j ≡ true

-- exactly the places are marked that walks reach: the marks are the least test that goes on so
pub record AreReached (links : List (SmallVec ℕ)) (starts closed marks : List Bool) : Type 0 where
  pub count : length marks ≡ length links
  pub goes_on : GoesOn links starts closed (mark_at marks)
  pub least : (test : ℕ → Bool) → GoesOn links starts closed test → (i : ℕ) → mark_at marks i ≡ true → test i ≡ true

-- exactly the places in the list are marked
pub record AreListed (marks : List Bool) (order : List ℕ) : Type 0 where
  pub marked : (i : ℕ) → Contains order i → mark_at marks i ≡ true
  pub listed : (i : ℕ) → mark_at marks i ≡ true → Contains order i

-- some places more are found
pub record Adds (old new : Found) (places : List ℕ) : Type 0 where
  pub count : length new.marks.items ≡ length old.marks.items
  pub more : List ℕ
  pub order : new.order.items ≡ old.order.items ++ more
  pub listed : AreListed new.marks.items new.order.items
  pub kept : (i : ℕ) → mark_at old.marks.items i ≡ true → mark_at new.marks.items i ≡ true
  pub added : (i : ℕ) → Contains places i → mark_at new.marks.items i ≡ true
  pub only : (i : ℕ) → mark_at new.marks.items i ≡ true → (mark_at old.marks.items i ≡ true) ⊎ Contains places i

-- the places found so far, of which the first k have been gone on from
pub record IsSpread (links : List (SmallVec ℕ)) (starts closed : List Bool) (found : Found) (k : ℕ) : Type 0 where
  pub count : length found.marks.items ≡ length links
  pub listed : AreListed found.marks.items found.order.items
  pub begun : (i : ℕ) → mark_at starts i ≡ true → mark_at found.marks.items i ≡ true
  pub onward : (p i j : ℕ) → p < k → slice_get found.order.items p ≡ Some i → mark_at closed i ≡ false → HasLink links i j → mark_at found.marks.items j ≡ true
  pub least : (test : ℕ → Bool) → GoesOn links starts closed test → (i : ℕ) → mark_at found.marks.items i ≡ true → test i ≡ true
