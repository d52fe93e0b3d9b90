-- How a walk found its nodes, and the links that led it to nodes found before.
use Rattle.std.specs.Prelude.{◌≡◌, ◌⊎◌, ℕ, ◌<◌, ◌≤◌, true, List, [], ◌∷◌, ◌++◌, length, slice_get, nat_le, Contains, IsSome, Option, Some, None, if◌then◌else◌}
use Rattle.std.specs.Option.{option_copied}
use denote.Ref.{Bor}
use Rattle.un_defs.specs.declared.port.Node.{Node}
use Rattle.un_defs.specs.declared.link.Tie.{Tie}
use Rattle.un_defs.specs.declared.walk.Mode.{Mode}
use Rattle.un_defs.specs.declared.walk.Barriers.{Barriers}
use Rattle.un_defs.specs.Ground.{Ground, entry, ties}
use Rattle.un_defs.specs.Reach.{goes_by, is_open}
use Rattle.un_walk.specs.declared.item.Item.{Item}
use Rattle.un_walk.specs.declared.found.Chord.{Chord}
use Rattle.un_walk.specs.declared.found.Found.{Found}
use Rattle.un_walk.specs.Growth.{has_node}
use Rattle.un_walk.specs.Found.{nodes}

-- the links that led to nodes found before
abbrev pub chords : Found → List Chord
chords f = f.chords.items

-- the node at the second place was found from the node at the first, by the link
pub record IsOrigin (f : Found) (p q : ℕ) (t : Tie) : Type 0 where
  pub item : Item
  pub at : slice_get f.items.items q ≡ Some item
  pub from : item.from ≡ p
  pub via : option_copied item.via ≡ Some t

-- the node at the place is a start
pub record IsStart (f : Found) (q : ℕ) : Type 0 where
  pub item : Item
  pub at : slice_get f.items.items q ≡ Some item
  pub via : option_copied item.via ≡ None

-- the link from the node at the first place to that at the second is a chord
pub record IsChord (f : Found) (p q : ℕ) (t : Tie) : Type 0 where
  pub chord : Chord
  pub stands : Contains (chords f) chord
  pub from : chord.from ≡ p
  pub to : chord.to ≡ q
  pub tie : chord.tie.now ≡ t

-- from the node at the first place, which is open, a walk goes by the link to the node at the second
pub record GoesBy (G : Ground) (B : Barriers) (mode : Mode) (ns : List Node) (p q : ℕ) (t : Tie) : Type 0 where
  pub one : Node
  pub other : Node
  pub at_one : slice_get ns p ≡ Some one
  pub at_other : slice_get ns q ≡ Some other
  pub opened : is_open G B one ≡ true
  pub stands : Contains (ties G one) t
  pub goes : goes_by G B mode one other t ≡ true

-- the links by which nodes were found make a forest over the places, in which each place has a root; they and the chords are links by which a
-- walk goes, and of the links that are done they are all that lead to a node with an entry, at the same place or a later one. What those that
-- are done lead to is found. The places from k on have one root.
pub record Traces (G : Ground) (B : Barriers) (mode : Mode) (f : Found) (k : ℕ) (done : ℕ → Tie → Type 0) : Type 0 where
  pub root : ℕ → ℕ
  pub starts : (q : ℕ) → IsStart f q → root q ≡ q
  pub origins : (p q : ℕ) (t : Tie) → IsOrigin f p q t → (p < q) × (root p ≡ root q) × GoesBy G B mode (nodes f) p q t
  pub chords : (c : Chord) → Contains (chords f) c → (c.from ≤ c.to) × (root c.from ≡ root c.to) × GoesBy G B mode (nodes f) c.from c.to c.tie.now
  pub whole : (p q : ℕ) (t : Tie) → done p t → p ≤ q → (go : GoesBy G B mode (nodes f) p q t) → IsSome (entry G go.other) → IsOrigin f p q t ⊎ IsChord f p q t
  pub closed : (p : ℕ) (one other : Node) (t : Tie) → done p t → slice_get (nodes f) p ≡ Some one → is_open G B one ≡ true → Contains (ties G one) t → goes_by G B mode one other t ≡ true → has_node (nodes f) other ≡ true
  pub fresh : (p q : ℕ) → k ≤ p → k ≤ q → p < length (nodes f) → q < length (nodes f) → root p ≡ root q

-- all links of the nodes before the place are done
abbrev pub AreDoneBefore : ℕ → ℕ → Tie → Type 0
AreDoneBefore k p t = p < k

-- the walk has gone by all links of the nodes that it found
abbrev pub IsTraced : Ground → Barriers → Mode → Found → Type 0
IsTraced G B mode f = Traces G B mode f (length (nodes f)) (AreDoneBefore (length (nodes f)))

-- ---- one node more

-- the chord of a link between these places, if there is a link and the second place is not before the first
abbrev pub chord_if : ℕ → ℕ → Option (Bor Tie) → List Chord
chord_if p q None = []
chord_if p q (Some tie) = if nat_le p q then (record { from = p; to = q; tie = tie }) ∷ [] else []

-- the node at the place was found from this one
pub record IsFoundFrom (f : Found) (p : ℕ) (n : Node) : Type 0 where
  pub place : ℕ
  pub tie : Tie
  pub origin : IsOrigin f place p tie
  pub at : slice_get (nodes f) place ≡ Some n

-- the node is new, and stands at the end with its origin
pub record AddsNode (f g : Found) (n : Node) (p : ℕ) (via : Option (Bor Tie)) : Type 0 where
  pub item : Item
  pub items : g.items.items ≡ f.items.items ++ item ∷ []
  pub node : item.seen.node ≡ n
  pub from : item.from ≡ p
  pub link : item.via ≡ via
  pub chords : chords g ≡ chords f

-- the node was there, and is the end of a chord, if it is not before
pub record AddsChord (f g : Found) (n : Node) (p : ℕ) (via : Option (Bor Tie)) : Type 0 where
  pub place : ℕ
  pub at : slice_get (nodes f) place ≡ Some n
  pub items : g.items.items ≡ f.items.items
  pub chords : chords g ≡ chords f ++ chord_if p place via

-- the node was there, and the node at p was found from it, or it has no entry
pub record AddsNothing (G : Ground) (f g : Found) (n : Node) (p : ℕ) : Type 0 where
  pub items : g.items.items ≡ f.items.items
  pub chords : chords g ≡ chords f
  pub why : IsFoundFrom f p n ⊎ (entry G n ≡ None)

-- a link from the node at p, or none for a start, led to the node
abbrev pub Adds : Ground → Found → Found → Node → ℕ → Option (Bor Tie) → Type 0
Adds G f g n p via = AddsNode f g n p via ⊎ AddsChord f g n p via ⊎ AddsNothing G f g n p
