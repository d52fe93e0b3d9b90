-- Colours on places: all places of a piece have one, the place of its first node.
use Rattle.std.specs.Prelude.{◌≡◌, ◌↔◌, ℕ, ◌<◌, ◌≤◌, ◌⊎◌, ⊤, List, [], ◌∷◌, ◌++◌, length, map, Contains, Option, Some, None, slice_get, IsTrue}
use Rattle.std.specs.List.{filter_map}
use Rattle.std.specs.List.Sorted.{IsStrictlySortedBy}
use Rattle.std.specs.Option.{option_map}
use Rattle.un_defs.specs.declared.port.Port.{Port}
use Rattle.un_defs.specs.declared.port.Node.{Node}
use Rattle.un_defs.specs.declared.walk.Mode.TheVariants.{Any}
use Rattle.un_defs.specs.Orders.{port_cmp}
use Rattle.un_defs.specs.Ground.{Ground}
use Rattle.un_defs.specs.Reach.{Walk, leads}
use Rattle.un_ask.specs.declared.typed.DiagramAsk.{DiagramAsk}
use Rattle.un_ask.specs.declared.results.Piece.{Piece}
use Rattle.un_ask.specs.declared.results.Edge.{Edge}
use Rattle.un_diagram.specs.declared.roles.Role.{Role}
use Rattle.un_diagram.specs.declared.roles.Role.TheVariants.{Collapsed}
use Rattle.un_diagram.specs.Diagram.{passes, is_kept, is_collapsed, IsPiece}
use Rattle.un_diagram.specs.Places.{IsAt}

abbrev pub HasColour : List (Option ℕ) → ℕ → ℕ → Type 0
HasColour colours i f = slice_get colours i ≡ Some (Some f)

-- the place is that of a collapsed node and has no colour
pub record IsBlank (roles : List Role) (colours : List (Option ℕ)) (i : ℕ) : Type 0 where
  pub collapsed : slice_get roles i ≡ Some Collapsed
  pub free : slice_get colours i ≡ Some None

-- no place stands twice in the list
abbrev pub EachOnce : List ℕ → Type 0
EachOnce [] = ⊤
EachOnce (i ∷ is) = (Contains is i → ⊥) × EachOnce is

-- the blank ones of some places get a colour, and go to the end of a list
pub record Colours (roles : List Role) (ends : List ℕ) (f : ℕ) (old new : List (Option ℕ)) (before after : List ℕ) : Type 0 where
  pub more : List ℕ
  pub order : after ≡ before ++ more
  pub count : length new ≡ length old
  pub kept : (i g : ℕ) → HasColour old i g → HasColour new i g
  pub only : (i g : ℕ) → HasColour new i g → HasColour old i g ⊎ ((g ≡ f) × Contains more i)
  pub added : (i : ℕ) → Contains more i → Contains ends i × IsBlank roles old i × HasColour new i f
  pub once : EachOnce more
  pub whole : (i : ℕ) → Contains ends i → slice_get roles i ≡ Some Collapsed → (g : ℕ) × HasColour new i g

-- the nodes at the places
abbrev pub nodes_at : List Node → List ℕ → List Node
nodes_at nodes places = filter_map (slice_get nodes) places

abbrev pub feature_at : List Node → ℕ → Option ℕ
feature_at nodes i = option_map (λ n. n.port.feature) (slice_get nodes i)

module _ (G : Ground) (ask : DiagramAsk) (nodes : List Node) where
  -- a walk over collapsed nodes leads from the node at the first place to the node at the second
  pub record IsLed (f i : ℕ) : Type 0 where
    pub first : Node
    pub node : Node
    pub at_first : IsAt nodes f first
    pub at_node : IsAt nodes i node
    pub walk : Walk (passes G ask) (first ∷ []) node

  -- a walk over collapsed nodes goes on to places of the same colour alone
  abbrev pub AreClosed : List (Option ℕ) → Type 0
  AreClosed colours = (i j g : ℕ) (n m : Node) → HasColour colours i g → IsAt nodes i n → IsAt nodes j m → IsTrue (passes G ask n m) → HasColour colours j g

  -- the places found of a piece, which get the place of its first node as their colour; the first k have been gone on from
  pub record IsSpread (f : ℕ) (old new : List (Option ℕ)) (members : List ℕ) (k : ℕ) : Type 0 where
    pub count : length new ≡ length old
    pub kept : (i g : ℕ) → HasColour old i g → HasColour new i g
    pub only : (i g : ℕ) → HasColour new i g → HasColour old i g ⊎ ((g ≡ f) × Contains members i)
    pub was_free : (i : ℕ) → Contains members i → slice_get old i ≡ Some None
    pub coloured : (i : ℕ) → Contains members i → HasColour new i f
    pub collapsed : (i : ℕ) (n : Node) → Contains members i → IsAt nodes i n → IsTrue (is_collapsed G ask n)
    pub led : (i : ℕ) → Contains members i → IsLed f i
    pub once : EachOnce members
    pub begun : Contains members f
    pub closed : (p i j : ℕ) (n m : Node) → p < k → slice_get members p ≡ Some i → IsAt nodes i n → IsAt nodes j m → IsTrue (passes G ask n m) → Contains members j

  -- the pieces with a first place below k are coloured
  pub record AreColoured (colours : List (Option ℕ)) (k : ℕ) : Type 0 where
    pub count : length colours ≡ length nodes
    pub below : (i f : ℕ) → HasColour colours i f → f < k
    pub least : (i f : ℕ) → HasColour colours i f → f ≤ i
    pub own : (i f : ℕ) → HasColour colours i f → HasColour colours f f
    pub collapsed : (i f : ℕ) (n : Node) → HasColour colours i f → IsAt nodes i n → IsTrue (is_collapsed G ask n)
    pub led : (i f : ℕ) → HasColour colours i f → IsLed f i
    pub closed : AreClosed colours
    pub whole : (i : ℕ) (n : Node) → i < k → IsAt nodes i n → IsTrue (is_collapsed G ask n) → (f : ℕ) × HasColour colours i f

  -- the piece is that of a colour below k
  pub record IsPieceAt (colours : List (Option ℕ)) (k : ℕ) (p : Piece) : Type 0 where
    pub place : ℕ
    pub first : Node
    pub below : place < k
    pub at : IsAt nodes place first
    pub own : HasColour colours place place
    pub named : first.port ≡ p.name
    pub is : IsPiece G ask nodes p

  -- the pieces of the colours below k
  pub record ArePieces (colours : List (Option ℕ)) (k : ℕ) (pieces : List Piece) : Type 0 where
    pub rise : IsStrictlySortedBy port_cmp (map (λ p. p.name) pieces)
    pub sound : (p : Piece) → Contains pieces p → IsPieceAt colours k p
    pub whole : (f : ℕ) (n : Node) → f < k → HasColour colours f f → IsAt nodes f n → (p : Piece) × Contains pieces p × (p.name ≡ n.port)

  -- ---- edges by places

  -- the port stands for the place, seen from a kept node at another place: that of a kept node further on, or the name of its piece
  abbrev pub IsSeenAs : List (Option ℕ) → ℕ → ℕ → Node → Port → Type 0
  IsSeenAs colours i j m q = ((i < j) × IsTrue (is_kept G ask m) × (m.port ≡ q)) ⊎ ((f : ℕ) × (h : Node) × HasColour colours j f × IsAt nodes f h × (h.port ≡ q))

  -- the edge goes from the node at a place to what the node at one of some other places is seen as
  pub record IsEdgeFrom (colours : List (Option ℕ)) (i : ℕ) (ends : List ℕ) (e : Edge) : Type 0 where
    pub one : Node
    pub j : ℕ
    pub other : Node
    pub at_one : IsAt nodes i one
    pub at_other : IsAt nodes j other
    pub end : Contains ends j
    pub from : e.from ≡ one.port
    pub to : IsSeenAs colours i j other e.to

  -- exactly these edges are added
  abbrev pub AddsEdges : List (Option ℕ) → ℕ → List ℕ → List Edge → List Edge → Type 0
  AddsEdges colours i ends old new = (e : Edge) → Contains new e ↔ (Contains old e ⊎ IsEdgeFrom colours i ends e)

  -- the edges of kept nodes at places below k
  pub record IsEdgeBelow (colours : List (Option ℕ)) (k : ℕ) (e : Edge) : Type 0 where
    pub i : ℕ
    pub j : ℕ
    pub one : Node
    pub other : Node
    pub below : i < k
    pub at_one : IsAt nodes i one
    pub at_other : IsAt nodes j other
    pub kept : IsTrue (is_kept G ask one)
    pub linked : IsTrue (leads G ask.barriers Any one other)
    pub from : e.from ≡ one.port
    pub to : IsSeenAs colours i j other e.to
