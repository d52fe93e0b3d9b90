-- Walks over a list of links, and the links that lie on a cycle. A link is identified by its index in the list.
use Rattle.std.specs.Prelude.{◌≡◌, ◌≢◌, ℕ, ◌⊎◌, List, [], ◌∷◌, Some, slice_get}
use Rattle.un_loops.specs.declared.link.Link.{Link}

-- the two nodes are the link's ends, in either order
abbrev pub HasEnds : Link → ℕ → ℕ → Type 0
HasEnds l u v = ((l.a ≡ u) × (l.b ≡ v)) ⊎ ((l.a ≡ v) × (l.b ≡ u))

-- the link with that index joins the two nodes, in either order
abbrev pub Joins : List Link → ℕ → ℕ → ℕ → Type 0
Joins links j u v = (l : Link) × (slice_get links j ≡ Some l) × HasEnds l u v

-- the indices are those of the links of a walk from u to v, and each of them is allowed
abbrev pub IsWalk : List Link → (ℕ → Type 0) → List ℕ → ℕ → ℕ → Type 0
IsWalk links allowed [] u v = u ≡ v
IsWalk links allowed (j ∷ js) u v = (w : ℕ) × allowed j × Joins links j u w × IsWalk links allowed js w v

-- some walk by allowed links leads from u to v
abbrev pub IsJoinedBy : List Link → (ℕ → Type 0) → ℕ → ℕ → Type 0
IsJoinedBy links allowed u v = (js : List ℕ) × IsWalk links allowed js u v

-- a walk without the link joins its ends
abbrev pub IsOnCycle : List Link → ℕ → Type 0
IsOnCycle links i = (l : Link) × (slice_get links i ≡ Some l) × IsJoinedBy links (λ j. j ≢ i) l.a l.b
