-- What is known of the best walks to nodes, said of each node with what its best walk costs, how many steps it takes, and the node before the last.
use Rattle.std.specs.Prelude.{◌≡◌, ℕ, ◌+◌, ◌≤◌, ◌⊎◌, Bool, List, [], ◌∷◌, IsTrue}
use Rattle.std.specs.Ordering.{is_le}
use Rattle.un_defs.specs.declared.port.Node.{Node}
use Rattle.un_defs.specs.Orders.{node_cmp}

-- the first cost is not above the second; where they are one, the first steps are not more; where these are one too, the first node is not after the second
pub record IsNotLater (c h : ℕ) (u : Node) (d k : ℕ) (v : Node) : Type 0 where
  pub cost : c ≤ d
  pub steps : c ≡ d → h ≤ k
  pub before : c ≡ d → h ≡ k → IsTrue (is_le (node_cmp u v))

module _ (step : Node → Node → Bool) (cost : Node → Node → ℕ) (start : Node) (Has : Node → ℕ → ℕ → Node → Type 0) where
  -- each but the start is reached from the node before it, and where a step leads on, what is known of the next node is not later
  pub record AreSettled : Type 0 where
    pub first : Has start 0 0 start
    pub real : (n : Node) (c h : ℕ) (u : Node) → Has n c h u
        → ((n ≡ start) × (h ≡ 0)) ⊎ ((d k : ℕ) × (v : Node) × Has u d k v × IsTrue (step u n) × (d + cost u n ≤ c) × (h ≡ k + 1))
    pub closed : (n : Node) (c h : ℕ) (u m : Node) → Has n c h u → IsTrue (step n m)
        → (d k : ℕ) × (v : Node) × Has m d k v × IsNotLater d k v (c + cost n m) (h + 1) n
    pub one : (n : Node) (c h : ℕ) (u : Node) (d k : ℕ) (v : Node) → Has n c h u → Has n d k v → (c ≡ d) × (h ≡ k) × (u ≡ v)

module _ (Has : Node → ℕ → ℕ → Node → Type 0) where
  -- the nodes are those before the first, each before the one in front of it, back to one without steps
  abbrev pub IsChain : Node → List Node → Type 0
  IsChain n [] = (c : ℕ) × (u : Node) × Has n c 0 u
  IsChain n (m ∷ ms) = (c h : ℕ) × Has n c (h + 1) m × IsChain m ms
