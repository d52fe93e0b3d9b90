-- Two grounds give one diagram where the reached nodes have the same entries in both.
use Rattle.std.proofs.Common.{◌≡◌, Bool, true, false, ◌&&◌, ◌||◌, ◌==◌, not, List, [], ◌∷◌, ◌++◌, length, map, filter, flat_map, Option, Some, None, refl, sym, ap, subst, ◌∙◌, inl, inr}
use Rattle.std.specs.List.{list_any, list_all}
use Rattle.std.specs.Ordering.{is_lt, is_le}
use Rattle.std.specs.Option.{option_map_or}
use Rattle.un_geom.specs.Places.{covers}
use Rattle.un_defs.specs.declared.port.Node.{Node}
use Rattle.un_defs.specs.declared.link.Tie.{Tie}
use Rattle.un_defs.specs.declared.walk.Mode.TheVariants.{Any}
use Rattle.un_defs.specs.declared.walk.Dirt.{Dirt}
use Rattle.un_defs.specs.Orders.{rising, port_cmp, same_port, same_node}
use Rattle.un_defs.specs.Ground.{Ground, entry, ties}
use Rattle.un_defs.specs.Reach.{leads, is_open, meets_condition, is_path, is_shut, goes_by, dirt}
use Rattle.un_defs.proofs.Rising.{Among}
use Rattle.un_defs.proofs.LinkCases.{both_true}
use Rattle.un_defs.proofs.ListLemmas.{filter-agree, any-agree, flat_map-agree}
use Rattle.un_defs.proofs.Members.{among_from-filter, contains_from_among}
use Rattle.un_defs.proofs.Unique.{node_same}
use Rattle.un_defs.proofs.Walking.{reached_have}
use Rattle.un_walk.specs.Spread.{reached_in}
use Rattle.un_walk.proofs.Spreading.{reached_is_reach, from_has}
use Rattle.un_ask.specs.declared.typed.DiagramAsk.{DiagramAsk}
use Rattle.un_diagram.specs.Answer.{drawn, diagram_given_dirt, diagram_reply}
use Rattle.un_diagram.specs.Diagram.{meets, is_chosen, is_kept, is_collapsed, passes, features_of, edge_cmp}
use Rattle.un_diagram.specs.DiagramLists.{has_node, ports_of, passes_among, piece_nodes, is_least, kept_nodes, least_nodes, joins_kept, joins_piece, edges_from, pieces, edges, diagram_of}
use Rattle.un_diagram.specs.Laws.{SameDiagramLaw}

module _ (G H : Ground) (areas : G.areas ≡ H.areas) (ask : DiagramAsk) (nodes : List Node) (same : (n : Node) → Among nodes n → entry G n ≡ entry H n) where
  -- ---- steps

  same_open : (n : Node) → Among nodes n → is_open G ask.barriers n ≡ is_open H ask.barriers n
  same_open n h =
      λ i. not (option_map_or (meets_condition ask.barriers) (same n h i) false || list_any (same_port n.port) ask.barriers.stops)
      && not (ask.barriers.consistent && list_any (λ area. covers area.1 n.at) (areas i))

  same_shut : (n : Node) (t : Tie) → Among nodes n → Among nodes t.to → is_shut G ask.barriers n t ≡ is_shut H ask.barriers n t
  same_shut n t h k =
      λ i. is_path t.name
      && option_map_or
      (λ tier. option_map_or (λ s. option_map_or (λ c. c.tier == tier) s.controller false) (same n h i) false
      || option_map_or (λ s. option_map_or (λ c. c.tier == tier) s.controller false) (same t.to k i) false) ask.barriers.tier false

  same_goes_by : (n m : Node) → Among nodes n → Among nodes m → (t : Tie) → goes_by G ask.barriers Any n m t ≡ goes_by H ask.barriers Any n m t
  same_goes_by n m h k t = go (same_node t.to m) refl
    where
      go : (b : Bool) → same_node t.to m ≡ b → (b && true && not (is_shut G ask.barriers n t)) ≡ (b && true && not (is_shut H ask.barriers n t))
      go true e = λ i. true && true && not (same_shut n t h (subst (Among nodes) (sym (node_same t.to m e)) k) i)
      go false e = refl

  same_leads : (n m : Node) → Among nodes n → Among nodes m → leads G ask.barriers Any n m ≡ leads H ask.barriers Any n m
  same_leads n m h k =
      (λ i. same_open n h i && list_any (goes_by G ask.barriers Any n m) (option_map_or (λ s. s.ties) (same n h i) []))
      ∙ ap (λ found. is_open H ask.barriers n && found) (any-agree (goes_by G ask.barriers Any n m) (goes_by H ask.barriers Any n m) (ties H n) (λ t _. same_goes_by n m h k t))

  -- ---- kept and collapsed nodes

  same_chosen : (n : Node) → Among nodes n → is_chosen G ask n ≡ is_chosen H ask n
  same_chosen n h = λ i. option_map_or (meets ask.keep) (same n h i) false || list_any (same_node n) ask.starts

  same_kept : (n : Node) → Among nodes n → is_kept G ask n ≡ is_kept H ask n
  same_kept n h = λ i. same_open n h i && same_chosen n h i

  same_collapsed : (n : Node) → Among nodes n → is_collapsed G ask n ≡ is_collapsed H ask n
  same_collapsed n h = λ i. same_open n h i && not (same_chosen n h i)

  same_kept_nodes : kept_nodes G ask nodes ≡ kept_nodes H ask nodes
  same_kept_nodes = filter-agree (is_kept G ask) (is_kept H ask) nodes same_kept

  -- ---- pieces

  same_passes : (n m : Node) → Among nodes n → Among nodes m → passes G ask n m ≡ passes H ask n m
  same_passes n m h k = λ i. (same_collapsed n h i && same_collapsed m k i) && same_leads n m h k i

  same_steps : (n m : Node) → passes_among G ask nodes n m ≡ passes_among H ask nodes n m
  same_steps n m = go (has_node nodes n) (has_node nodes m) refl refl
    where
      go : (a b : Bool) → has_node nodes n ≡ a → has_node nodes m ≡ b → ((a && b) && passes G ask n m) ≡ ((a && b) && passes H ask n m)
      go true true e f = same_passes n m (from_has nodes n e) (from_has nodes m f)
      go true false e f = refl
      go false b e f = refl

  same_nodes : (n : Node) → piece_nodes G ask nodes n ≡ piece_nodes H ask nodes n
  same_nodes n = λ i. reached_in (λ a b. same_steps a b i) nodes (n ∷ [])

  -- a piece is among the nodes
  piece_within : (n m : Node) → Among nodes n → Among (piece_nodes G ask nodes n) m → Among nodes m
  piece_within n m h k =
      reached_have (passes_among G ask nodes) (n ∷ []) (Among nodes) (λ a g. elim g [ inl e ↦ subst (Among nodes) e h | inr f ↦ absurd f ]) (λ a b _ e. led a b e) m
      (((reached_is_reach (passes_among G ask nodes) nodes (n ∷ []) led).exact m).0 (contains_from_among (piece_nodes G ask nodes n) m k))
    where
      led : (a b : Node) → passes_among G ask nodes a b ≡ true → Among nodes b
      led a b e = from_has nodes b (both_true (has_node nodes a) (has_node nodes b) (both_true (has_node nodes a && has_node nodes b) (passes G ask a b) e).0).1

  same_least : (n : Node) → Among nodes n → is_least G ask nodes n ≡ is_least H ask nodes n
  same_least n h = λ i. same_collapsed n h i && list_all (λ m. is_le (port_cmp n.port m.port)) (same_nodes n i)

  same_least_nodes : least_nodes G ask nodes ≡ least_nodes H ask nodes
  same_least_nodes = filter-agree (is_least G ask nodes) (is_least H ask nodes) nodes same_least

  same_pieces : pieces G ask nodes ≡ pieces H ask nodes
  same_pieces = λ i. map (λ n. record { name = n.port; nodes = length (same_nodes n i); features = length (features_of (same_nodes n i)) }) (same_least_nodes i)

  -- ---- edges

  same_joins_kept : (n m : Node) → Among nodes n → Among nodes m → joins_kept G ask n m ≡ joins_kept H ask n m
  same_joins_kept n m h k = ap (λ found. found && is_lt (port_cmp n.port m.port)) (same_leads n m h k)

  same_joins_piece : (n m : Node) → Among nodes n → Among nodes m → joins_piece G ask nodes n m ≡ joins_piece H ask nodes n m
  same_joins_piece n m h k =
      any-agree (leads G ask.barriers Any n) (leads H ask.barriers Any n) (piece_nodes G ask nodes m) (λ l i. same_leads n l h (piece_within m l k i))
      ∙ ap (list_any (leads H ask.barriers Any n)) (same_nodes m)

  same_beside : (n : Node) → Among nodes n → filter (joins_kept G ask n) (kept_nodes G ask nodes) ≡ filter (joins_kept H ask n) (kept_nodes H ask nodes)
  same_beside n h =
      filter-agree (joins_kept G ask n) (joins_kept H ask n) (kept_nodes G ask nodes) (λ m k. same_joins_kept n m h (among_from-filter (is_kept G ask) nodes m k).0)
      ∙ ap (filter (joins_kept H ask n)) same_kept_nodes

  same_pieces_beside : (n : Node) → Among nodes n → filter (joins_piece G ask nodes n) (least_nodes G ask nodes) ≡ filter (joins_piece H ask nodes n) (least_nodes H ask nodes)
  same_pieces_beside n h =
      filter-agree (joins_piece G ask nodes n) (joins_piece H ask nodes n) (least_nodes G ask nodes) (λ m k. same_joins_piece n m h (among_from-filter (is_least G ask nodes) nodes m k).0)
      ∙ ap (filter (joins_piece H ask nodes n)) same_least_nodes

  same_edges_from : (n : Node) → Among nodes n → edges_from G ask nodes n ≡ edges_from H ask nodes n
  same_edges_from n h = λ i. map (λ q. record { from = n.port; to = q }) (ports_of (same_beside n h i ++ same_pieces_beside n h i))

  same_edges : edges G ask nodes ≡ edges H ask nodes
  same_edges =
      ap (rising edge_cmp) (flat_map-agree (edges_from G ask nodes) (edges_from H ask nodes) (kept_nodes G ask nodes) (λ n h. same_edges_from n (among_from-filter (is_kept G ask) nodes n h).0)
      ∙ ap (flat_map (edges_from H ask nodes)) same_kept_nodes)

  same_lists : diagram_of G ask nodes ≡ diagram_of H ask nodes
  same_lists = λ i. record { kept = ports_of (same_kept_nodes i); pieces = same_pieces i; edges = same_edges i }

pub same_diagram : SameDiagramLaw
same_diagram G H ask reached areas entries = go (dirt G reached) refl
  where
    over : dirt G reached ≡ dirt H reached
    over = λ i. dirt (record { stars = G.stars; areas = areas i }) reached

    go : (o : Option Dirt) → dirt G reached ≡ o → diagram_reply G ask reached ≡ diagram_reply H ask reached
    go (Some d) e = ap (λ o. diagram_given_dirt o G ask reached) e ∙ sym (ap (λ o. diagram_given_dirt o H ask reached) (sym over ∙ e))
    go None e =
        ap (λ o. diagram_given_dirt o G ask reached) e
        ∙ ap drawn (same_lists G H areas ask reached (λ n h. entries e n (contains_from_among reached n h)))
        ∙ sym (ap (λ o. diagram_given_dirt o H ask reached) (sym over ∙ e))
