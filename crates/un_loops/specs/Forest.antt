-- Forests whose nodes are numbered in an order in which parents come first.
use Rattle.std.specs.Prelude.{◌≡◌, ℕ, ◌<◌, List, length, Option, None, Some, slice_get, slice_index_or}
use Rattle.un_loops.specs.declared.link.Link.{Link}
use Rattle.un_loops.specs.declared.graph.Parent.{Parent}
use Rattle.un_loops.specs.Graph.{Joins}

abbrev pub parent_at : List (Option Parent) → ℕ → Option Parent
parent_at parents v = slice_index_or parents v None

-- each place has a root: each parent link leads to an earlier place of the same root, a place without one is its own root, and each link joins
-- two places of one root
pub record IsForest (links : List Link) (parents : List (Option Parent)) : Type 0 where
  pub root : ℕ → ℕ
  pub parent : (v : ℕ) (u : Parent) → v < length parents → parent_at parents v ≡ Some u → (u.place < v) × Joins links u.link v u.place × (root u.place ≡ root v)
  pub top : (v : ℕ) → v < length parents → parent_at parents v ≡ None → root v ≡ v
  pub ends : (j : ℕ) (l : Link) → slice_get links j ≡ Some l → (l.a < length parents) × (l.b < length parents) × (root l.a ≡ root l.b)

-- the link is the parent link of some place
abbrev pub IsParentLink : List (Option Parent) → ℕ → Type 0
IsParentLink parents j = (v : ℕ) × (u : Parent) × (v < length parents) × (parent_at parents v ≡ Some u) × (u.link ≡ j)
