-- Heads: for each place, itself or a place nearer to the root that it is joined to by parent links known to lie on cycles. A place that is not its own head has its parent link on a cycle.
use Rattle.std.specs.Prelude.{◌≡◌, ◌≢◌, ℕ, ◌<◌, ◌≤◌, ◌⊎◌, zero, suc, List, length, Option, Some, slice_index, slice_get}
use Rattle.un_loops.specs.declared.link.Link.{Link}
use Rattle.un_loops.specs.declared.graph.Parent.{Parent}
use Rattle.un_loops.specs.Graph.{IsJoinedBy, IsOnCycle}
use Rattle.un_loops.specs.Forest.{parent_at, IsParentLink}

-- no head is later than its place
abbrev pub AreHeadsBelow : List ℕ → Type 0
AreHeadsBelow heads = (v : ℕ) → v < length heads → slice_index heads v ≤ v

-- the head of the head, k times
abbrev pub nth_head : ℕ → List ℕ → ℕ → ℕ
nth_head zero heads v = v
nth_head (suc k) heads v = nth_head k heads (slice_index heads v)

-- heads may be skipped, but a place that was not its own head stays so, and one that was stays so
pub record AreShortened (old new : List ℕ) : Type 0 where
  pub count : length new ≡ length old
  pub along : (v : ℕ) → v < length old → (k : ℕ) × (slice_index new v ≡ nth_head k old v)
  pub stays : (v : ℕ) → v < length old → slice_index old v ≡ v → slice_index new v ≡ v
  pub moves : (v : ℕ) → v < length old → slice_index old v ≢ v → slice_index new v ≢ v

-- the link is the parent link of a place that is not its own head
abbrev pub IsMarked : List (Option Parent) → List ℕ → ℕ → Type 0
IsMarked parents heads j = (v : ℕ) × (u : Parent) × (v < length heads) × (parent_at parents v ≡ Some u) × (u.link ≡ j) × (slice_index heads v ≢ v)

pub record AreHeads (links : List Link) (parents : List (Option Parent)) (heads : List ℕ) : Type 0 where
  pub count : length heads ≡ length parents
  pub below : AreHeadsBelow heads
  pub joined : (v : ℕ) → v < length heads → IsJoinedBy links (IsMarked parents heads) v (slice_index heads v)
  pub cyclic : (v : ℕ) → v < length heads → slice_index heads v ≢ v → (u : Parent) × (parent_at parents v ≡ Some u) × IsOnCycle links u.link

-- each of the first k links is a parent link, or its ends are joined by marked links
abbrev pub AreSpanned : List Link → List (Option Parent) → List ℕ → ℕ → Type 0
AreSpanned links parents heads k = (j : ℕ) (l : Link) → j < k → slice_get links j ≡ Some l → IsParentLink parents j ⊎ IsJoinedBy links (IsMarked parents heads) l.a l.b

-- each place is its own head
abbrev pub AreOwnHeads : List ℕ → ℕ → Type 0
AreOwnHeads heads count = (length heads ≡ count) × ((v : ℕ) → v < count → slice_index heads v ≡ v)
