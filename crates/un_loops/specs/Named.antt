-- Links by name between nodes of any kind, and the names that lie on a loop.
use Rattle.std.specs.Prelude.{◌≡◌, ◌≢◌, ◌⊎◌, List, [], ◌∷◌}

module _ {Node Name : Type 0} (linked : Name → Node → Node → Type 0) where
  -- names other than this one, with the node that each leads to, of a walk from n to m
  abbrev pub IsNamedWalk : Name → List (Name × Node) → Node → Node → Type 0
  IsNamedWalk without [] n m = n ≡ m
  IsNamedWalk without (step ∷ steps) n m = (step.0 ≢ without) × linked step.0 n step.1 × IsNamedWalk without steps step.1 m

  -- some walk without the name leads from one end of one of its links to the other
  abbrev pub IsOnLoop : Name → Type 0
  IsOnLoop x = (n : Node) × (m : Node) × linked x n m × ((steps : List (Name × Node)) × IsNamedWalk x steps n m)

  -- each link stands at both its ends
  abbrev pub AreMutual : Type 0
  AreMutual = (x : Name) (n m : Node) → linked x n m → linked x m n

  -- the links of one name join one pair of nodes
  abbrev pub HaveOnePair : Type 0
  HaveOnePair = (x : Name) (n m k l : Node) → linked x n m → linked x k l → ((n ≡ k) × (m ≡ l)) ⊎ ((n ≡ l) × (m ≡ k))
