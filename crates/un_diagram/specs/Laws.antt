-- What a diagram keeps: connection, and each open node in one place; and what the diagram of a reply is.
use Rattle.std.specs.Prelude.{◌≡◌, ◌↔◌, ◌⊎◌, Bool, ◌&&◌, List, [], ◌∷◌, Contains, IsTrue, None}
use Rattle.un_defs.specs.declared.port.Port.{Port}
use Rattle.un_defs.specs.declared.port.Node.{Node}
use Rattle.un_defs.specs.declared.walk.Mode.TheVariants.{Any}
use Rattle.un_defs.specs.Ground.{Ground, entry}
use Rattle.un_defs.specs.Linked.{HaveOwnPorts, AreLinked}
use Rattle.un_defs.specs.Reach.{Walk, leads, is_open, dirt}
use Rattle.un_ask.specs.declared.typed.DiagramAsk.{DiagramAsk}
use Rattle.un_ask.specs.declared.results.Piece.{Piece}
use Rattle.un_diagram.specs.Answer.{IsReachOf, diagram_reply}
use Rattle.un_diagram.specs.Diagram.{Diagram, IsKept, IsPieceNamed, IsDiagram}
use Rattle.un_diagram.specs.DiagramLists.{diagram_of}

-- what a diagram is of: the nodes that walks from the starts reach, linked as it needs it
pub record IsDiagramOf (G : Ground) (ask : DiagramAsk) (reached : List Node) (d : Diagram) : Type 0 where
  pub reach : IsReachOf G ask reached
  pub linked : AreLinked G reached
  pub untiered : ask.barriers.tier ≡ None
  pub is : IsDiagram G ask reached d

-- ---- each open node in one place

-- the node is one of those of the piece
pub record HasNode (G : Ground) (ask : DiagramAsk) (reached : List Node) (p : Piece) (n : Node) : Type 0 where
  pub nodes : List Node
  pub are : IsPieceNamed G ask reached p.name nodes
  pub has : Contains nodes n

-- it is kept and in no piece
pub record IsInNoPiece (G : Ground) (ask : DiagramAsk) (reached : List Node) (d : Diagram) (n : Node) : Type 0 where
  pub kept : IsKept G ask reached n
  pub none : (p : Piece) → Contains d.pieces p → HasNode G ask reached p n → ⊥

-- or it is not kept and in exactly one
pub record IsInOnePiece (G : Ground) (ask : DiagramAsk) (reached : List Node) (d : Diagram) (n : Node) : Type 0 where
  pub left : IsKept G ask reached n → ⊥
  pub piece : Piece
  pub among : Contains d.pieces piece
  pub has : HasNode G ask reached piece n
  pub only : (p : Piece) → Contains d.pieces p → HasNode G ask reached p n → p ≡ piece

-- each open reached node is kept or in exactly one piece
abbrev pub EachInOnePlace : Type 0
EachInOnePlace = (G : Ground) (ask : DiagramAsk) (reached : List Node) (d : Diagram) → IsDiagramOf G ask reached d
    → (n : Node) → Contains reached n → IsTrue (is_open G ask.barriers n) → IsInNoPiece G ask reached d n ⊎ IsInOnePiece G ask reached d n

-- ---- connection

-- a walk goes from one node to the next, which is open too
abbrev pub goes_open : Ground → DiagramAsk → Node → Node → Bool
goes_open G ask n m = leads G ask.barriers Any n m && is_open G ask.barriers m

-- a kept port, or the name of a piece
abbrev pub IsShown : Diagram → Port → Type 0
IsShown d q = Contains d.kept q ⊎ ((p : Piece) × Contains d.pieces p × (p.name ≡ q))

-- an edge stands between them
abbrev pub AreNeighbours : Diagram → Port → Port → Type 0
AreNeighbours d q r = Contains d.edges (record { from = q; to = r }) ⊎ Contains d.edges (record { from = r; to = q })

-- kept ports and pieces lead from one to the other, with an edge between neighbours
abbrev pub IsLine : Diagram → Port → List Port → Port → Type 0
IsLine d q [] r = q ≡ r
IsLine d q (s ∷ ss) r = IsShown d s × AreNeighbours d q s × IsLine d s ss r

-- a walk over open nodes joins two kept nodes exactly where kept ports and pieces lead from the one to the other
abbrev pub KeepsConnection : Type 0
KeepsConnection = (G : Ground) (ask : DiagramAsk) (reached : List Node) (d : Diagram) → IsDiagramOf G ask reached d
    → (n m : Node) → IsKept G ask reached n → IsKept G ask reached m → Walk (goes_open G ask) (n ∷ []) m ↔ ((names : List Port) × IsLine d n.port names m.port)

-- ---- the diagram of a reply

-- of the nodes that walks reach, of which no two have one port, it has exactly the kept ports, the pieces and the edges, and is the only such diagram
abbrev pub DiagramListLaw : Type 0
DiagramListLaw = (G : Ground) (ask : DiagramAsk) (reached : List Node) → IsReachOf G ask reached → HaveOwnPorts reached
    → IsDiagram G ask reached (diagram_of G ask reached) × ((d : Diagram) → IsDiagram G ask reached d → d ≡ diagram_of G ask reached)

-- over two grounds with the same areas, and the same entries at the reached nodes where these are clean, the reply is one
abbrev pub SameDiagramLaw : Type 0
SameDiagramLaw = (G H : Ground) (ask : DiagramAsk) (reached : List Node) → G.areas ≡ H.areas
    → (dirt G reached ≡ None → (n : Node) → Contains reached n → entry G n ≡ entry H n)
    → diagram_reply G ask reached ≡ diagram_reply H ask reached
