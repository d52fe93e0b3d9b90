-- The collapsed diagram of the nodes that walks reach: the kept nodes, the pieces between them, and the edges.
use Rattle.std.specs.Prelude.{◌≡◌, ◌↔◌, ◌⊎◌, ℕ, Bool, false, not, ◌&&◌, ◌||◌, List, [], ◌∷◌, map, length, Contains, IsTrue}
use Rattle.std.specs.declared.cmp.Ordering.{Ordering}
use Rattle.std.specs.declared.cmp.Ordering.TheVariants.{Less}
use Rattle.std.specs.Ordering.{nat_cmp, ordering_then, is_le}
use Rattle.std.specs.List.{list_any}
use Rattle.std.specs.List.Sorted.{IsStrictlySortedBy}
use Rattle.std.specs.Option.{option_map_or}
use Rattle.un_conds.specs.Conditions.{Condition, holds}
use Rattle.un_defs.specs.declared.port.Port.{Port}
use Rattle.un_defs.specs.declared.port.Node.{Node}
use Rattle.un_defs.specs.declared.star.Spot.{Spot}
use Rattle.un_defs.specs.declared.walk.Mode.TheVariants.{Any}
use Rattle.un_defs.specs.Orders.{rising, port_cmp, same_node}
use Rattle.un_defs.specs.Ground.{Ground, entry}
use Rattle.un_defs.specs.Reach.{IsReach, leads, is_open}
use Rattle.un_ask.specs.declared.typed.DiagramAsk.{DiagramAsk}
use Rattle.un_ask.specs.declared.results.Piece.{Piece}
use Rattle.un_ask.specs.declared.results.Edge.{Edge}

abbrev pub meets : Condition ℕ → Spot → Bool
meets c s = holds c s.attrs s.cats.0

-- the node's entry meets the condition, or it is a start
abbrev pub is_chosen : Ground → DiagramAsk → Node → Bool
is_chosen G ask n = option_map_or (meets ask.keep) (entry G n) false || list_any (same_node n) ask.starts

-- an open node is kept or collapsed
abbrev pub is_kept : Ground → DiagramAsk → Node → Bool
is_kept G ask n = is_open G ask.barriers n && is_chosen G ask n

abbrev pub is_collapsed : Ground → DiagramAsk → Node → Bool
is_collapsed G ask n = is_open G ask.barriers n && not (is_chosen G ask n)

-- a walk goes from one collapsed node to another
abbrev pub passes : Ground → DiagramAsk → Node → Node → Bool
passes G ask n m = (is_collapsed G ask n && is_collapsed G ask m) && leads G ask.barriers Any n m

-- the features of nodes, each once
abbrev pub features_of : List Node → List ℕ
features_of nodes = rising nat_cmp (map (λ n. n.port.feature) nodes)

-- edges compare by their first port, then by the second
abbrev pub edge_cmp : Edge → Edge → Ordering
edge_cmp a b = ordering_then (port_cmp a.from b.from) (port_cmp a.to b.to)

-- what a diagram shows: kept ports, pieces, and edges
pub record Diagram : Type 0 where
  pub kept : List Port
  pub pieces : List Piece
  pub edges : List Edge

module _ (G : Ground) (ask : DiagramAsk) (reached : List Node) where
  pub record IsKept (n : Node) : Type 0 where
    pub among : Contains reached n
    pub kept : IsTrue (is_kept G ask n)

  pub record IsCollapsed (n : Node) : Type 0 where
    pub among : Contains reached n
    pub collapsed : IsTrue (is_collapsed G ask n)

  -- the nodes of a piece: those to which walks over collapsed nodes lead from one of them. Its least port is its name
  pub record IsPieceNamed (q : Port) (nodes : List Node) : Type 0 where
    pub first : Node
    pub collapsed : IsCollapsed first
    pub named : first.port ≡ q
    pub reach : IsReach (passes G ask) (first ∷ []) nodes
    pub least : (m : Node) → Contains nodes m → IsTrue (is_le (port_cmp q m.port))

  -- the piece is shown with the numbers of its nodes and of its features
  pub record IsPiece (p : Piece) : Type 0 where
    pub nodes : List Node
    pub are : IsPieceNamed p.name nodes
    pub count : p.nodes ≡ length nodes
    pub features : p.features ≡ length (features_of nodes)

  -- an edge joins two kept nodes that are linked, the lesser port first
  pub record JoinsKept (e : Edge) : Type 0 where
    pub one : Node
    pub other : Node
    pub one_kept : IsKept one
    pub other_kept : IsKept other
    pub linked : IsTrue (leads G ask.barriers Any one other)
    pub lesser_first : port_cmp one.port other.port ≡ Less
    pub from : e.from ≡ one.port
    pub to : e.to ≡ other.port

  -- or a kept node with a piece that has a node linked to it, by the name of the piece
  pub record JoinsPiece (e : Edge) : Type 0 where
    pub one : Node
    pub other : Node
    pub nodes : List Node
    pub one_kept : IsKept one
    pub piece : IsPieceNamed e.to nodes
    pub inside : Contains nodes other
    pub linked : IsTrue (leads G ask.barriers Any one other)
    pub from : e.from ≡ one.port

  abbrev pub IsEdge : Edge → Type 0
  IsEdge e = JoinsKept e ⊎ JoinsPiece e

  -- the diagram has exactly the kept ports, the pieces and the edges, each rising
  pub record IsDiagram (d : Diagram) : Type 0 where
    pub kept_rise : IsStrictlySortedBy port_cmp d.kept
    pub kept : (q : Port) → Contains d.kept q ↔ ((n : Node) × IsKept n × (n.port ≡ q))
    pub pieces_rise : IsStrictlySortedBy port_cmp (map (λ p. p.name) d.pieces)
    pub pieces : (p : Piece) → Contains d.pieces p ↔ IsPiece p
    pub edges_rise : IsStrictlySortedBy edge_cmp d.edges
    pub edges : (e : Edge) → Contains d.edges e ↔ IsEdge e
