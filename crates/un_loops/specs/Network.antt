-- The links between the places of found nodes that are open, and the graph that is made of them.
use Rattle.std.specs.Prelude.{◌≡◌, ◌⊎◌, ℕ, ◌<◌, ◌≤◌, Bool, true, false, not, cond, List, [], ◌∷◌, ◌++◌, length, slice_get, Contains, Option, Some, None}
use Rattle.std.specs.Option.{option_map_or}
use Rattle.un_defs.specs.declared.port.Node.{Node}
use Rattle.un_defs.specs.declared.link.LinkName.{LinkName}
use Rattle.un_defs.specs.declared.link.Tie.{Tie}
use Rattle.un_defs.specs.declared.walk.Mode.TheVariants.{Any}
use Rattle.un_defs.specs.declared.walk.Barriers.{Barriers}
use Rattle.un_defs.specs.Ground.{Ground}
use Rattle.un_defs.specs.Reach.{is_barrier}
use Rattle.un_walk.specs.declared.found.Chord.{Chord}
use Rattle.un_walk.specs.declared.found.Found.{Found}
use Rattle.un_walk.specs.Found.{nodes}
use Rattle.un_walk.specs.Traced.{GoesBy, IsOrigin, IsStart, IsTraced}
use Rattle.un_loops.specs.declared.link.Link.{Link}
use Rattle.un_loops.specs.declared.graph.Parent.{Parent}
use Rattle.un_loops.specs.declared.graph.Graph.{Graph}
use Rattle.un_loops.specs.Forest.{parent_at, IsForest, IsParentLink}
use Rattle.un_loops.specs.Named.{AreMutual, HaveOnePair}

-- the node at the place is no barrier
abbrev pub is_passable : Ground → Barriers → List Node → ℕ → Bool
is_passable G B ns i = option_map_or (λ n. not (is_barrier G B n)) (slice_get ns i) false

-- a walk goes by a link of this name from the node at the first place to the node at the second, which is no barrier
pub record IsJoined (G : Ground) (B : Barriers) (ns : List Node) (x : LinkName) (i j : ℕ) : Type 0 where
  pub tie : Tie
  pub named : tie.name ≡ x
  pub goes : GoesBy G B Any ns i j tie
  pub passable : is_passable G B ns j ≡ true

-- each link stands at both its ends, and the links of one name join one pair of places
pub record AreWellLinked (G : Ground) (B : Barriers) (ns : List Node) : Type 0 where
  pub mutual_links : AreMutual (IsJoined G B ns)
  pub one_pair : HaveOnePair (IsJoined G B ns)

-- links with their names and a forest that spans them: each link is one of its name, each name of a link is in the list, and that of a parent
-- link only once
pub record IsNetwork (linked : LinkName → ℕ → ℕ → Type 0) (links : List Link) (names : List LinkName) (parents : List (Option Parent)) : Type 0 where
  pub forest : IsForest links parents
  pub count : length names ≡ length links
  pub sound : (j : ℕ) (l : Link) → slice_get links j ≡ Some l → (x : LinkName) × (slice_get names j ≡ Some x) × linked x l.a l.b
  pub whole : (x : LinkName) (i j : ℕ) → linked x i j → Contains names x
  pub apart : (j k : ℕ) (x : LinkName) → IsParentLink parents j → slice_get names j ≡ Some x → slice_get names k ≡ Some x → j ≡ k

-- ---- how it is made

-- a root of each place, where those of the walk are given: a barrier is its own
abbrev pub root_by : Ground → Barriers → List Node → (ℕ → ℕ) → ℕ → ℕ
root_by G B ns root v = cond (is_passable G B ns v) (root v) v

-- the graph has the parent links of the first k places, and of the other links some that lead from a place to the same or a later one
pub record IsGraphOver (G : Ground) (B : Barriers) (f : Found) (g : Graph) (k : ℕ) : Type 0 where
  pub traced : IsTraced G B Any f
  pub count : length g.parents.items ≡ k
  pub names : length g.names ≡ length g.links.items
  pub opened : (v : ℕ) (b : Bool) → slice_get g.opened.items v ≡ Some b → is_passable G B (nodes f) v ≡ b
  pub all_opened : length g.opened.items ≡ k
  pub sound : (j : ℕ) (l : Link) → slice_get g.links.items j ≡ Some l
      → (l.a ≤ l.b) × (l.b < k) × (root_by G B (nodes f) traced.root l.a ≡ root_by G B (nodes f) traced.root l.b)
      × ((x : LinkName) × (slice_get g.names j ≡ Some x) × IsJoined G B (nodes f) x l.a l.b)
  pub parent : (v : ℕ) (u : Parent) → slice_get g.parents.items v ≡ Some (Some u) → (u.place < v) × (slice_get g.links.items u.link ≡ Some (record { a = u.place; b = v }))
  pub top : (v : ℕ) → slice_get g.parents.items v ≡ Some None → root_by G B (nodes f) traced.root v ≡ v
  -- no other link has the name and the ends of a parent link
  pub own : (v : ℕ) (u : Parent) (j : ℕ) (l : Link) (x : LinkName) → slice_get g.parents.items v ≡ Some (Some u) → slice_get g.links.items j ≡ Some l → l.a ≡ u.place → l.b ≡ v
      → slice_get g.names u.link ≡ Some x → slice_get g.names j ≡ Some x → j ≡ u.link
  pub origins : (p q : ℕ) (t : Tie) → q < k → IsOrigin f p q t → is_passable G B (nodes f) q ≡ true → Contains g.names t.name

-- one more link with its name
pub record AddsLink (old new : Graph) (l : Link) (x : LinkName) : Type 0 where
  pub links : new.links.items ≡ old.links.items ++ l ∷ []
  pub names : new.names ≡ old.names ++ x ∷ []

-- the next place, to which its parent link leads
pub record AddsChild (f : Found) (old new : Graph) (q : ℕ) : Type 0 where
  pub place : ℕ
  pub tie : Tie
  pub origin : IsOrigin f place q tie
  pub adds : AddsLink old new (record { a = place; b = q }) tie.name
  pub parents : new.parents.items ≡ old.parents.items ++ Some (record { place = place; link = length old.links.items }) ∷ []
  pub opened : new.opened.items ≡ old.opened.items ++ true ∷ []

-- the next place as a root: it is a barrier, or a start
pub record AddsRoot (f : Found) (old new : Graph) (q : ℕ) (b : Bool) : Type 0 where
  pub links : new.links.items ≡ old.links.items
  pub names : new.names ≡ old.names
  pub parents : new.parents.items ≡ old.parents.items ++ None ∷ []
  pub opened : new.opened.items ≡ old.opened.items ++ b ∷ []
  pub why : (b ≡ false) ⊎ IsStart f q

-- one more place, which is passable or not
abbrev pub AddsPlace : Found → Graph → Graph → ℕ → Bool → Type 0
AddsPlace f old new q b = ((b ≡ true) × AddsChild f old new q) ⊎ AddsRoot f old new q b

-- the parent link of the chord's end comes from the same place, and has the same name
pub record HasParentLink (g : Graph) (c : Chord) : Type 0 where
  pub parent : Parent
  pub at : parent_at g.parents.items c.to ≡ Some parent
  pub from : parent.place ≡ c.from
  pub named : slice_get g.names parent.link ≡ Some c.tie.now.name

-- the chord is a link of the graph that is not there yet
pub record IsTaken (g : Graph) (c : Chord) : Type 0 where
  pub opened : slice_get g.opened.items c.to ≡ Some true
  pub other : HasParentLink g c → ⊥

-- of the chord that is left out there is nothing to add
abbrev pub IsLeftOut : Graph → Chord → Type 0
IsLeftOut g c = slice_get g.opened.items c.to ≡ Some true → HasParentLink g c

-- the chord's link is added, where it is one
pub record AddsChordLink (old new : Graph) (c : Chord) : Type 0 where
  pub parents : new.parents.items ≡ old.parents.items
  pub opened : new.opened.items ≡ old.opened.items
  pub adds : (IsTaken old c × AddsLink old new (record { a = c.from; b = c.to }) c.tie.now.name)
      ⊎ (IsLeftOut old c × (new.links.items ≡ old.links.items) × (new.names ≡ old.names))
