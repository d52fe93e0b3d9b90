-- The lists of a diagram have exactly its ports, pieces and edges, and are the only such lists.
use Rattle.std.proofs.Common.{◌≡◌, ◌↔◌, Bool, true, false, cond, ◌&&◌, List, [], ◌∷◌, ◌++◌, length, map, filter, flat_map, inl, inr, refl, sym, ap, subst, ◌∙◌, true≢false, Ordering, Less, Equal, Greater}
use Rattle.std.specs.Prelude.{Contains, IsTrue}
use Rattle.std.specs.List.{list_all}
use Rattle.std.specs.List.Sorted.{IsStrictlySortedBy}
use Rattle.std.specs.Ordering.{is_lt, is_le}
use Rattle.std.specs.Cmp.{IsTotalOrder, on_total}
use Rattle.un_defs.specs.declared.port.Port.{Port}
use Rattle.un_defs.specs.declared.port.Node.{Node}
use Rattle.un_defs.specs.declared.walk.Mode.TheVariants.{Any}
use Rattle.un_defs.specs.Orders.{port_cmp, node_cmp}
use Rattle.un_defs.specs.Ground.{Ground}
use Rattle.un_defs.specs.Linked.{HaveOwnPorts}
use Rattle.un_defs.specs.Reach.{Walk, IsReach, leads}
use Rattle.un_defs.proofs.Rising.{Among, among-rising, among_from-rising, sorted-rising, sorted_unique}
use Rattle.un_defs.proofs.Members.{among_left, among_right, among_cases, among_from-filter, among-filter, among_from-map, among-map, among_from-flat_map, among-flat_map, contains_from_among, among_from_contains, among_from_list_any, list_any_from_among}
use Rattle.un_defs.proofs.OrderLaws.{node_total, port_total}
use Rattle.un_defs.proofs.LinkCases.{both_true, true_both}
use Rattle.un_defs.proofs.ListLemmas.{map-map}
use Rattle.un_defs.proofs.Walking.{walk_from_start, walk_on, reached_have}
use Rattle.un_walk.proofs.Spreading.{reached_is_reach, has_from, from_has}
use Rattle.un_ask.specs.declared.results.Piece.{Piece}
use Rattle.un_ask.specs.declared.results.Edge.{Edge}
use Rattle.un_ask.specs.declared.typed.DiagramAsk.{DiagramAsk}
use Rattle.un_diagram.specs.Diagram.{is_kept, is_collapsed, passes, features_of, edge_cmp, Diagram, IsKept, IsPieceNamed, IsPiece, IsEdge, IsDiagram}
use Rattle.un_diagram.specs.DiagramLists.{has_node, ports_of, passes_among, piece_nodes, is_least, piece_of, kept_nodes, least_nodes, joins_kept, joins_piece, joined_ports, edges_from, kept_ports, pieces, edges, diagram_of}
use Rattle.un_diagram.specs.Laws.{DiagramListLaw}
use Rattle.un_diagram.proofs.Alike.{edge_total, edge_ties}
use Rattle.un_diagram.proofs.Drawn.{all_by_among, among_all}
use Rattle.un_diagram.proofs.Piecing.{port_less, not_before_itself}

-- ---- lists

all_true : {A : Type 0} (p : A → Bool) (xs : List A) → ((x : A) → Among xs x → p x ≡ true) → list_all p xs ≡ true
all_true p [] h = refl
all_true p (x ∷ xs) h = true_both (p x) (list_all p xs) (h x (inl refl)) (all_true p xs (λ y g. h y (inr g)))

true_of : {A : Type 0} (p : A → Bool) (xs : List A) → list_all p xs ≡ true → (x : A) → Among xs x → p x ≡ true
true_of p [] h x g = absurd g
true_of p (y ∷ ys) h x g =
    let parts = both_true (p y) (list_all p ys) h in
    elim g [ inl e ↦ subst (λ z. p z ≡ true) e parts.0 | inr i ↦ true_of p ys parts.1 x i ]

less_from : (k : Ordering) → is_lt k ≡ true → k ≡ Less
less_from Less e = refl
less_from Equal e = absurd (true≢false (sym e))
less_from Greater e = absurd (true≢false (sym e))

-- two lists in order with the elements of one property are one
alike : {A : Type 0} {cmp : A → A → Ordering} (P : A → Type 0) → IsTotalOrder cmp → (xs ys : List A) → IsStrictlySortedBy cmp xs → IsStrictlySortedBy cmp ys
    → ((x : A) → Contains xs x ↔ P x) → ((x : A) → Contains ys x ↔ P x) → xs ≡ ys
alike P total xs ys a b are also = sorted_unique total xs ys a b
    (λ x h. among_from_contains ys x ((also x).1 ((are x).0 (contains_from_among xs x h))))
    (λ x h. among_from_contains xs x ((are x).1 ((also x).0 (contains_from_among ys x h))))

-- the ports of nodes in order that pass a test, where no two nodes have one port
ports_sorted : (p : Node → Bool) (nodes : List Node) → IsStrictlySortedBy node_cmp nodes → HaveOwnPorts nodes → IsStrictlySortedBy port_cmp (ports_of (filter p nodes))
unfolding IsStrictlySortedBy
ports_sorted p [] s own = tt
ports_sorted p (n ∷ nodes) s own =
    let rest : IsStrictlySortedBy port_cmp (ports_of (filter p nodes)) = ports_sorted p nodes s.1 (λ a b h g e. own a b (put a h) (put b g) e) in
    elim (p n) as (λ b. IsStrictlySortedBy port_cmp (ports_of (cond b (n ∷ filter p nodes) (filter p nodes)))) [
      | true ↦ (all_by_among (λ q. port_cmp n.port q ≡ Less) (ports_of (filter p nodes)) after, rest)
      | false ↦ rest
    ]
  where
    put : (a : Node) → Contains nodes a → Contains (n ∷ nodes) a
    put a h = contains_from_among (n ∷ nodes) a (inr (among_from_contains nodes a h))

    below : (m : Node) → Among nodes m → node_cmp n m ≡ Less
    below = among_all (λ m. node_cmp n m ≡ Less) nodes s.0

    after : (q : Port) → Among (ports_of (filter p nodes)) q → port_cmp n.port q ≡ Less
    after q h =
        let m = among_from-map (λ (m : Node). m.port) (filter p nodes) q h in
        let has : Among nodes m.0 = (among_from-filter p nodes m.0 m.1).0 in
        let apart : n.port ≡ (m.0).port → ⊥ = λ e.
        let same : n ≡ m.0 = own n m.0 (contains_from_among (n ∷ nodes) n (inl refl)) (contains_from_among (n ∷ nodes) m.0 (inr has)) e in
        not_before_itself m.0 (subst (λ k. node_cmp k m.0 ≡ Less) same (below m.0 has)) in
        subst (λ x. port_cmp n.port x ≡ Less) m.2 (port_less n m.0 apart (below m.0 has))

-- pieces whose names are in order
abbrev by_name : Piece → Piece → Ordering
by_name p r = port_cmp p.name r.name

by_name_total : IsTotalOrder by_name
by_name_total = on_total (λ (p : Piece). p.name) port_total

named_sorted : (ps : List Piece) → IsStrictlySortedBy port_cmp (map (λ p. p.name) ps) → IsStrictlySortedBy by_name ps
unfolding IsStrictlySortedBy
named_sorted [] s = tt
named_sorted (p ∷ ps) s = (
  all_by_among (λ r. by_name p r ≡ Less) ps (λ r h. among_all (λ q. port_cmp p.name q ≡ Less) (map (λ (r : Piece). r.name) ps) s.0 r.name (among-map (λ (r : Piece). r.name) ps r h)),
  named_sorted ps s.1,
)

-- ---- a diagram is the only one

module _ (G : Ground) (ask : DiagramAsk) (reached : List Node) (d e : Diagram) (a : IsDiagram G ask reached d) (b : IsDiagram G ask reached e) where
  one_kept : d.kept ≡ e.kept
  one_kept = alike (λ q. (n : Node) × IsKept G ask reached n × (n.port ≡ q)) port_total d.kept e.kept a.kept_rise b.kept_rise a.kept b.kept

  one_pieces : d.pieces ≡ e.pieces
  one_pieces = alike (IsPiece G ask reached) by_name_total d.pieces e.pieces (named_sorted d.pieces a.pieces_rise) (named_sorted e.pieces b.pieces_rise) a.pieces b.pieces

  one_edges : d.edges ≡ e.edges
  one_edges = alike (IsEdge G ask reached) edge_total d.edges e.edges a.edges_rise b.edges_rise a.edges b.edges

  pub only_diagram : d ≡ e
  only_diagram = λ i. record { kept = one_kept i; pieces = one_pieces i; edges = one_edges i }

-- ---- the lists of nodes in order that no step leaves, and of which no two have one port

module _ (G : Ground) (ask : DiagramAsk) (reached : List Node) (sorted : IsStrictlySortedBy node_cmp reached)
    (closed : (n m : Node) → Contains reached n → IsTrue (leads G ask.barriers Any n m) → Contains reached m) (own : HaveOwnPorts reached) where
  -- ---- pieces

  abbrev step : Node → Node → Bool
  step = passes_among G ask reached

  abbrev around : Node → List Node
  around = piece_nodes G ask reached

  to_reached : (n m : Node) → step n m ≡ true → Among reached m
  to_reached n m e =
      from_has reached m (both_true (has_node reached n) (has_node reached m) (both_true (has_node reached n && has_node reached m) (passes G ask n m) e).0).1

  passed : (n m : Node) → step n m ≡ true → passes G ask n m ≡ true
  passed n m e = (both_true (has_node reached n && has_node reached m) (passes G ask n m) e).1

  goes_on : (n m : Node) → Contains reached n → passes G ask n m ≡ true → Contains reached m
  goes_on n m h e = closed n m h (both_true (is_collapsed G ask n && is_collapsed G ask m) (leads G ask.barriers Any n m) e).1

  stepped : (n m : Node) → Contains reached n → passes G ask n m ≡ true → step n m ≡ true
  stepped n m h e =
      true_both (has_node reached n && has_node reached m) (passes G ask n m)
      (true_both (has_node reached n) (has_node reached m) (has_from reached n (among_from_contains reached n h)) (has_from reached m (among_from_contains reached m (goes_on n m h e)))) e

  -- reached by such steps from the node
  abbrev IsAround : Node → Node → Type 0
  IsAround n m = Contains reached m × Walk step (n ∷ []) m

  -- walks over collapsed nodes from a reached node reach these
  around_reach : (n : Node) → Contains reached n → IsReach (passes G ask) (n ∷ []) (around n)
  around_reach n has = record {
    rising = found.rising;
    exact = λ m. (λ h. wide m ((found.exact m).0 h), λ w. (found.exact m).1 (narrow m w).1);
  }
    where
      found : IsReach step (n ∷ []) (around n)
      found = reached_is_reach step reached (n ∷ []) to_reached

      wide : (m : Node) → Walk step (n ∷ []) m → Walk (passes G ask) (n ∷ []) m
      wide = reached_have step (n ∷ []) (Walk (passes G ask) (n ∷ [])) (walk_from_start (passes G ask) (n ∷ [])) (λ a b w e. walk_on (passes G ask) (n ∷ []) a b w (passed a b e))

      narrow : (m : Node) → Walk (passes G ask) (n ∷ []) m → IsAround n m
      narrow = reached_have (passes G ask) (n ∷ []) (IsAround n)
          (λ m g. elim g [ inl e ↦ subst (IsAround n) e (has, walk_from_start step (n ∷ []) n (inl refl)) | inr f ↦ absurd f ])
          (λ a b h e. (goes_on a b h.0 e, walk_on step (n ∷ []) a b h.1 (stepped a b h.0 e)))

  -- the piece of its least node
  least_named : (f : Node) → Contains reached f → is_least G ask reached f ≡ true → IsPieceNamed G ask reached f.port (around f)
  least_named f h e =
      let parts = both_true (is_collapsed G ask f) (list_all (λ m. is_le (port_cmp f.port m.port)) (around f)) e in
      record {
        first = f;
        collapsed = record { among = h; collapsed = parts.0 };
        named = refl;
        reach = around_reach f h;
        least = λ m i. true_of (λ m. is_le (port_cmp f.port m.port)) (around f) parts.1 m (among_from_contains (around f) m i);
      }

  module _ (q : Port) (ns : List Node) (a : IsPieceNamed G ask reached q ns) where
    has_first : Contains reached a.first
    has_first = a.collapsed.among

    around_is : around a.first ≡ ns
    around_is =
        let reach = around_reach a.first has_first in
        alike (Walk (passes G ask) (a.first ∷ [])) node_total (around a.first) ns reach.rising a.reach.rising reach.exact a.reach.exact

    first_is_least : is_least G ask reached a.first ≡ true
    first_is_least =
        true_both (is_collapsed G ask a.first) (list_all (λ m. is_le (port_cmp (a.first).port m.port)) (around a.first)) a.collapsed.collapsed
        (all_true (λ m. is_le (port_cmp (a.first).port m.port)) (around a.first) (λ m h.
        subst (λ x. is_le (port_cmp x m.port) ≡ true) (sym a.named) (a.least m (contains_from_among ns m (subst (λ l. Among l m) around_is h)))))

    among_least : Among (least_nodes G ask reached) a.first
    among_least = among-filter (is_least G ask reached) reached a.first (among_from_contains reached a.first has_first) first_is_least

  pieces_exact : (p : Piece) → Contains (pieces G ask reached) p ↔ IsPiece G ask reached p
  pieces_exact p = (
    λ h.
        let f = among_from-map (piece_of G ask reached) (least_nodes G ask reached) p (among_from_contains (pieces G ask reached) p h) in
        let parts = among_from-filter (is_least G ask reached) reached f.0 f.1 in
        let is : IsPiece G ask reached (piece_of G ask reached f.0) = record {
          nodes = around f.0;
          are = least_named f.0 (contains_from_among reached f.0 parts.0) parts.1;
          count = refl;
          features = refl;
        } in
        subst (IsPiece G ask reached) f.2 is,
    λ is.
        let f = is.are.first in
        let nodes : around f ≡ is.nodes = around_is p.name is.nodes is.are in
        let count : length (around f) ≡ p.nodes = ap length nodes ∙ sym is.count in
        let features : length (features_of (around f)) ≡ p.features = ap (λ l. length (features_of l)) nodes ∙ sym is.features in
        let same : piece_of G ask reached f ≡ p = λ i. record { name = is.are.named i; nodes = count i; features = features i } in
        contains_from_among (pieces G ask reached) p
        (subst (Among (pieces G ask reached)) same (among-map (piece_of G ask reached) (least_nodes G ask reached) f (among_least p.name is.nodes is.are))),
  )

  -- ---- kept ports

  kept_from : (n : Node) → Among (kept_nodes G ask reached) n → IsKept G ask reached n
  kept_from n h =
      let parts = among_from-filter (is_kept G ask) reached n h in
      record { among = contains_from_among reached n parts.0; kept = parts.1 }

  from_kept : (n : Node) → IsKept G ask reached n → Among (kept_nodes G ask reached) n
  from_kept n k = among-filter (is_kept G ask) reached n (among_from_contains reached n k.among) k.kept

  kept_exact : (q : Port) → Contains (kept_ports G ask reached) q ↔ ((n : Node) × IsKept G ask reached n × (n.port ≡ q))
  kept_exact q = (
    λ h.
        let n = among_from-map (λ (n : Node). n.port) (kept_nodes G ask reached) q (among_from_contains (kept_ports G ask reached) q h) in
        (n.0, kept_from n.0 n.1, n.2),
    λ (n, k, port).
        contains_from_among (kept_ports G ask reached) q (subst (Among (kept_ports G ask reached)) port (among-map (λ (n : Node). n.port) (kept_nodes G ask reached) n (from_kept n k))),
  )

  -- ---- edges

  abbrev beside : Node → List Node
  beside n = filter (joins_kept G ask n) (kept_nodes G ask reached)

  abbrev pieces_beside : Node → List Node
  pieces_beside n = filter (joins_piece G ask reached n) (least_nodes G ask reached)

  abbrev edge_to : Node → Port → Edge
  edge_to n q = record { from = n.port; to = q }

  -- an edge to the port of one of these nodes
  edge_with : (n m : Node) → IsKept G ask reached n → Among (beside n ++ pieces_beside n) m → IsEdge G ask reached (edge_to n m.port)
  edge_with n m k h = elim (among_cases (beside n) (pieces_beside n) m h) [
    | inl i ↦
        let parts = among_from-filter (joins_kept G ask n) (kept_nodes G ask reached) m i in
        let joins = both_true (leads G ask.barriers Any n m) (is_lt (port_cmp n.port m.port)) parts.1 in
        inl (record {
          one = n;
          other = m;
          one_kept = k;
          other_kept = kept_from m parts.0;
          linked = joins.0;
          lesser_first = less_from (port_cmp n.port m.port) joins.1;
          from = refl;
          to = refl;
        })
    | inr i ↦
        let parts = among_from-filter (joins_piece G ask reached n) (least_nodes G ask reached) m i in
        let inside = among_from_list_any (leads G ask.barriers Any n) (around m) parts.1 in
        let least = among_from-filter (is_least G ask reached) reached m parts.0 in
        inr (record {
          one = n;
          other = inside.0;
          nodes = around m;
          one_kept = k;
          piece = least_named m (contains_from_among reached m least.0) least.1;
          inside = contains_from_among (around m) inside.0 inside.1;
          linked = inside.2;
          from = refl;
        })
  ]

  edge_from : (n m : Node) → Among (beside n ++ pieces_beside n) m → Among (edges_from G ask reached n) (edge_to n m.port)
  edge_from n m h = among-map (edge_to n) (joined_ports G ask reached n) m.port (among-map (λ (m : Node). m.port) (beside n ++ pieces_beside n) m h)

  -- an edge of a kept node is one of all edges
  put : (n : Node) (e : Edge) → IsKept G ask reached n → Among (edges_from G ask reached n) e → Contains (edges G ask reached) e
  put n e k h =
      contains_from_among (edges G ask reached) e (among-rising edge_cmp (flat_map (edges_from G ask reached) (kept_nodes G ask reached)) (λ a b _ _ t. edge_ties a b t) e
      (among-flat_map (edges_from G ask reached) (kept_nodes G ask reached) n e (from_kept n k) h))

  sound : (e : Edge) → Contains (edges G ask reached) e → IsEdge G ask reached e
  sound e h =
      let n = among_from-flat_map (edges_from G ask reached) (kept_nodes G ask reached) e
      (among_from-rising edge_cmp (flat_map (edges_from G ask reached) (kept_nodes G ask reached)) e (among_from_contains (edges G ask reached) e h)) in
      let q = among_from-map (edge_to n.0) (joined_ports G ask reached n.0) e n.2 in
      let m = among_from-map (λ (m : Node). m.port) (beside n.0 ++ pieces_beside n.0) q.0 q.1 in
      let same : edge_to n.0 (m.0).port ≡ e = ap (edge_to n.0) m.2 ∙ q.2 in
      subst (IsEdge G ask reached) same (edge_with n.0 m.0 (kept_from n.0 n.1) m.1)

  whole : (e : Edge) → IsEdge G ask reached e → Contains (edges G ask reached) e
  whole e h = elim h [
    | inl j ↦
        let here : Among (beside j.one) j.other = among-filter (joins_kept G ask j.one) (kept_nodes G ask reached) j.other (from_kept j.other j.other_kept)
        (true_both (leads G ask.barriers Any j.one j.other) (is_lt (port_cmp (j.one).port (j.other).port)) j.linked (ap is_lt j.lesser_first)) in
        let same : edge_to j.one (j.other).port ≡ e = λ i. record { from = sym j.from i; to = sym j.to i } in
        put j.one e j.one_kept (subst (Among (edges_from G ask reached j.one)) same (edge_from j.one j.other (among_left (beside j.one) (pieces_beside j.one) j.other here)))
    | inr j ↦
        let f = j.piece.first in
        let inside : Among (around f) j.other = subst (λ l. Among l j.other) (sym (around_is e.to j.nodes j.piece)) (among_from_contains j.nodes j.other j.inside) in
        let here : Among (pieces_beside j.one) f = among-filter (joins_piece G ask reached j.one) (least_nodes G ask reached) f (among_least e.to j.nodes j.piece)
        (list_any_from_among (leads G ask.barriers Any j.one) (around f) j.other inside j.linked) in
        let same : edge_to j.one f.port ≡ e = λ i. record { from = sym j.from i; to = j.piece.named i } in
        put j.one e j.one_kept (subst (Among (edges_from G ask reached j.one)) same (edge_from j.one f (among_right (beside j.one) (pieces_beside j.one) f here)))
  ]

  -- ---- the diagram

  pub listed : IsDiagram G ask reached (diagram_of G ask reached)
  listed = record {
    kept_rise = ports_sorted (is_kept G ask) reached sorted own;
    kept = kept_exact;
    pieces_rise = subst (IsStrictlySortedBy port_cmp) (sym (map-map (piece_of G ask reached) (λ p. p.name) (least_nodes G ask reached))) (ports_sorted (is_least G ask reached) reached sorted own);
    pieces = pieces_exact;
    edges_rise = sorted-rising edge_total (flat_map (edges_from G ask reached) (kept_nodes G ask reached));
    edges = λ e. (sound e, whole e);
  }

  pub only_list : (d : Diagram) → IsDiagram G ask reached d → d ≡ diagram_of G ask reached
  only_list d is = only_diagram G ask reached d (diagram_of G ask reached) is listed

pub diagram_listed : DiagramListLaw
diagram_listed G ask reached reach own = (listed G ask reached reach.rising closed own, only_list G ask reached reach.rising closed own)
  where
    closed : (n m : Node) → Contains reached n → IsTrue (leads G ask.barriers Any n m) → Contains reached m
    closed n m h e = (reach.exact m).1 (walk_on (leads G ask.barriers Any) ask.starts n m ((reach.exact n).0 h) e)
