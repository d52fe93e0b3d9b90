-- The kept ports, the pieces and the edges are those of the diagram.
use Rattle.std.proofs.Common.{◌≡◌, ◌↔◌, ℕ, zero, suc, true, false, ◌&&◌, List, [], ◌∷◌, length, Option, Some, inl, inr, refl, sym, ap, subst, ◌∙◌, arith, true≢false, Less, Greater}
use Rattle.std.specs.Prelude.{slice_get, Contains}
use Rattle.std.specs.List.{AllByRecursion, filter_map, zip}
use Rattle.std.specs.List.Sorted.{IsStrictlySortedBy}
use Rattle.std.specs.Ordering.{ordering_reverse, is_le}
use Rattle.std.proofs.lemmas.Bool.{cases_lt}
use Rattle.std.proofs.lemmas.Option.{slice_get_within}
use Rattle.un_defs.specs.declared.port.Port.{Port}
use Rattle.un_defs.specs.declared.port.Node.{Node}
use Rattle.un_defs.specs.Ground.{Ground}
use Rattle.un_defs.specs.Linked.{HaveOwnPorts}
use Rattle.un_defs.specs.Orders.{port_cmp, node_cmp}
use Rattle.un_defs.specs.Reach.{Walk, IsReach}
use Rattle.un_defs.proofs.Rising.{Among, sorted_unique}
use Rattle.un_defs.proofs.Members.{among_from_contains, contains_from_among}
use Rattle.un_defs.proofs.OrderLaws.{node_total, port_total}
use Rattle.un_defs.proofs.LinkCases.{some_same, both_true}
use Rattle.un_defs.proofs.Walking.{reached_have, walk_from_start, walk_on}
use Rattle.un_ask.specs.declared.typed.DiagramAsk.{DiagramAsk}
use Rattle.un_ask.specs.declared.results.Piece.{Piece}
use Rattle.un_ask.specs.declared.results.Edge.{Edge}
use Rattle.un_diagram.specs.declared.roles.Role.{Role}
use Rattle.un_diagram.specs.declared.roles.Role.TheVariants.{Kept, Collapsed, Shut}
use Rattle.un_diagram.specs.Diagram.{is_collapsed, passes, features_of, IsKept, IsPieceNamed, IsPiece, IsEdge}
use Rattle.un_diagram.specs.Places.{IsAt, IsNetwork, AreRoles, port_if_kept}
use Rattle.un_diagram.specs.Colours.{HasColour, AreColoured, ArePieces, IsEdgeBelow}
use Rattle.un_diagram.proofs.Linking.{kept_from, kept_role}
use Rattle.un_diagram.proofs.Colouring.{passes_back}
use Rattle.un_diagram.proofs.Piecing.{port_less, not_before_itself, ports_less}
use Rattle.un_diagram.proofs.Placing.{contains_at, place_from, one_place}

-- ---- kept ports

abbrev kept_list : List Node → List Role → List Port
kept_list nodes roles = filter_map (λ pair. port_if_kept pair.0 pair.1) (zip nodes roles)

-- the port is that of a node whose role is to be kept
record IsListed (nodes : List Node) (roles : List Role) (q : Port) : Type 0 where
  place : ℕ
  node : Node
  at : IsAt nodes place node
  role : slice_get roles place ≡ Some Kept
  port : node.port ≡ q

later : (n : Node) (nodes : List Node) (r : Role) (roles : List Role) (q : Port) → IsListed nodes roles q → IsListed (n ∷ nodes) (r ∷ roles) q
later n nodes r roles q h = record { place = suc h.place; node = h.node; at = h.at; role = h.role; port = h.port }

listed_from : (nodes : List Node) (roles : List Role) (q : Port) → Among (kept_list nodes roles) q → IsListed nodes roles q
listed_from [] roles q h = absurd h
listed_from (n ∷ nodes) [] q h = absurd h
listed_from (n ∷ nodes) (Kept ∷ roles) q h = elim h [
  | inl e ↦ record { place = 0; node = n; at = refl; role = refl; port = e }
  | inr g ↦ later n nodes Kept roles q (listed_from nodes roles q g)
]
listed_from (n ∷ nodes) (Collapsed ∷ roles) q h = later n nodes Collapsed roles q (listed_from nodes roles q h)
listed_from (n ∷ nodes) (Shut ∷ roles) q h = later n nodes Shut roles q (listed_from nodes roles q h)

listed_in : (nodes : List Node) (roles : List Role) (i : ℕ) (n : Node) → IsAt nodes i n → slice_get roles i ≡ Some Kept → Among (kept_list nodes roles) n.port
listed_in [] roles i n at role = absurd (cc)
listed_in (m ∷ nodes) [] i n at role = absurd (cc)
listed_in (m ∷ nodes) (Kept ∷ roles) zero n at role = inl (ap (λ (x : Node). x.port) (some_same m n at))
listed_in (m ∷ nodes) (Collapsed ∷ roles) zero n at role = absurd (cc)
listed_in (m ∷ nodes) (Shut ∷ roles) zero n at role = absurd (cc)
listed_in (m ∷ nodes) (Kept ∷ roles) (suc i) n at role = inr (listed_in nodes roles i n at role)
listed_in (m ∷ nodes) (Collapsed ∷ roles) (suc i) n at role = listed_in nodes roles i n at role
listed_in (m ∷ nodes) (Shut ∷ roles) (suc i) n at role = listed_in nodes roles i n at role

pub all_by_among : {A : Type 0} (P : A → Type 0) (xs : List A) → ((x : A) → Among xs x → P x) → AllByRecursion P xs
all_by_among P [] h = tt
all_by_among P (x ∷ xs) h = (h x (inl refl), all_by_among P xs (λ y g. h y (inr g)))

pub among_all : {A : Type 0} (P : A → Type 0) (xs : List A) → AllByRecursion P xs → (x : A) → Among xs x → P x
among_all P [] h x g = absurd g
among_all P (y ∷ xs) h x g = elim g [ inl e ↦ subst P e h.0 | inr i ↦ among_all P xs h.1 x i ]

listed_sorted : (nodes : List Node) (roles : List Role) → IsStrictlySortedBy node_cmp nodes → HaveOwnPorts nodes → IsStrictlySortedBy port_cmp (kept_list nodes roles)
unfolding IsStrictlySortedBy
listed_sorted [] roles s own = tt
listed_sorted (n ∷ nodes) [] s own = tt
listed_sorted (n ∷ nodes) (Collapsed ∷ roles) s own = listed_sorted nodes roles s.1 (λ a b h g e. own a b (put a h) (put b g) e)
  where
    put : (a : Node) → Contains nodes a → Contains (n ∷ nodes) a
    put a h = contains_from_among (n ∷ nodes) a (inr (among_from_contains nodes a h))
listed_sorted (n ∷ nodes) (Shut ∷ roles) s own = listed_sorted nodes roles s.1 (λ a b h g e. own a b (put a h) (put b g) e)
  where
    put : (a : Node) → Contains nodes a → Contains (n ∷ nodes) a
    put a h = contains_from_among (n ∷ nodes) a (inr (among_from_contains nodes a h))
listed_sorted (n ∷ nodes) (Kept ∷ roles) s own = (
  all_by_among (λ q. port_cmp n.port q ≡ Less) (kept_list nodes roles) (λ q h.
      let l = listed_from nodes roles q h in
      let has : Contains nodes l.node = contains_at nodes l.place l.node l.at in
      let less : node_cmp n l.node ≡ Less = among_all (λ m. node_cmp n m ≡ Less) nodes s.0 l.node (among_from_contains nodes l.node has) in
      let apart : n.port ≡ (l.node).port → ⊥ = λ e.
      let same : n ≡ l.node = own n l.node (contains_from_among (n ∷ nodes) n (inl refl)) (put l.node has) e in
      not_before_itself l.node (subst (λ k. node_cmp k l.node ≡ Less) same less) in
      subst (λ x. port_cmp n.port x ≡ Less) l.port (port_less n l.node apart less)),
  listed_sorted nodes roles s.1 (λ a b h g e. own a b (put a h) (put b g) e),
)
  where
    put : (a : Node) → Contains nodes a → Contains (n ∷ nodes) a
    put a h = contains_from_among (n ∷ nodes) a (inr (among_from_contains nodes a h))

-- ---- orders of ports

pub less_not_le : (q r : Port) → port_cmp q r ≡ Less → is_le (port_cmp r q) ≡ true → ⊥
less_not_le q r less le =
    let turned : port_cmp r q ≡ Greater = port_total.antisymm r q ∙ ap ordering_reverse less in
    let clash : false ≡ true = ap is_le (sym turned) ∙ le in
    true≢false (sym clash)

not_less_both : (q r : Port) → port_cmp q r ≡ Less → port_cmp r q ≡ Less → ⊥
not_less_both q r a b = less_not_le q r a (ap is_le b)

not_less_itself : (q : Port) → port_cmp q q ≡ Less → ⊥
not_less_itself q a = not_less_both q q a a

-- ---- over the ground

module _ (G : Ground) (ask : DiagramAsk) (nodes : List Node) (are : IsNetwork G ask.barriers nodes) (roles : List Role) (are_roles : AreRoles G ask nodes roles) where
  -- walks over collapsed nodes stay among these
  pub record IsInside (n : Node) : Type 0 where
    pub among : Contains nodes n
    pub collapsed : is_collapsed G ask n ≡ true

  pub inside_on : (n m : Node) → IsInside n → passes G ask n m ≡ true → IsInside m
  inside_on n m h e =
      let parts = both_true (is_collapsed G ask n && is_collapsed G ask m) _ e in
      record { among = are.closed n m h.among parts.1; collapsed = (both_true (is_collapsed G ask n) (is_collapsed G ask m) parts.0).1 }

  pub inside_walk : (n m : Node) → IsInside n → Walk (passes G ask) (n ∷ []) m → IsInside m
  inside_walk n m h w = reached_have (passes G ask) (n ∷ []) IsInside (λ k g. elim g [ inl e ↦ subst IsInside e h | inr f ↦ absurd f ]) inside_on m w

  pub walk_join : (a b c : Node) → Walk (passes G ask) (a ∷ []) b → Walk (passes G ask) (b ∷ []) c → Walk (passes G ask) (a ∷ []) c
  walk_join a b c v w = reached_have (passes G ask) (b ∷ []) (Walk (passes G ask) (a ∷ []))
      (λ k g. elim g [ inl e ↦ subst (Walk (passes G ask) (a ∷ [])) e v | inr f ↦ absurd f ])
      (λ n m u e. walk_on (passes G ask) (a ∷ []) n m u e) c w

  -- and go back
  abbrev Back : Node → Node → Type 0
  Back a k = IsInside k × Walk (passes G ask) (k ∷ []) a

  pub walk_back : (a b : Node) → IsInside a → Walk (passes G ask) (a ∷ []) b → Walk (passes G ask) (b ∷ []) a
  walk_back a b h w = (reached_have (passes G ask) (a ∷ []) (Back a)
      (λ k g. elim g [ inl e ↦ subst (Back a) e (h, walk_from_start (passes G ask) (a ∷ []) a (inl refl)) | inr f ↦ absurd f ])
      (λ n m u e.
      let there = inside_on n m u.0 e in
      let first : Walk (passes G ask) (m ∷ []) n = walk_on (passes G ask) (m ∷ []) m n (walk_from_start (passes G ask) (m ∷ []) m (inl refl)) (passes_back G ask nodes are roles are_roles n m u.0.among there.among e) in
      (there, walk_join m n a first u.1)) b w).1

  -- pieces of one name are one
  pub same_piece : (p r : Piece) → IsPiece G ask nodes p → IsPiece G ask nodes r → p.name ≡ r.name → p ≡ r
  same_piece p r a b e =
      let first : a.are.first ≡ b.are.first = are.linked.own_ports a.are.first b.are.first a.are.collapsed.among b.are.collapsed.among (a.are.named ∙ e ∙ sym b.are.named) in
      let reach : IsReach (passes G ask) (a.are.first ∷ []) b.nodes = subst (λ x. IsReach (passes G ask) (x ∷ []) b.nodes) (sym first) b.are.reach in
      let lists : a.nodes ≡ b.nodes = sorted_unique node_total a.nodes b.nodes a.are.reach.rising reach.rising
      (λ n h. among_from_contains b.nodes n ((reach.exact n).1 ((a.are.reach.exact n).0 (contains_from_among a.nodes n h))))
      (λ n h. among_from_contains a.nodes n ((a.are.reach.exact n).1 ((reach.exact n).0 (contains_from_among b.nodes n h)))) in
      let count : p.nodes ≡ r.nodes = a.count ∙ ap length lists ∙ sym b.count in
      let features : p.features ≡ r.features = a.features ∙ ap (λ l. length (features_of l)) lists ∙ sym b.features in
      λ i. record { name = e i; nodes = count i; features = features i }

  module _ (colours : List (Option ℕ)) (coloured : AreColoured G ask nodes colours (length nodes)) where
    -- the colour goes along walks
    abbrev Has : ℕ → Node → Type 0
    Has f k = IsInside k × ((l : ℕ) → IsAt nodes l k → HasColour colours l f)

    colour_along : (i f : ℕ) (n m : Node) → HasColour colours i f → IsAt nodes i n → IsInside n → Walk (passes G ask) (n ∷ []) m → (j : ℕ) → IsAt nodes j m → HasColour colours j f
    colour_along i f n m has at inside w j at_j = (reached_have (passes G ask) (n ∷ []) (Has f)
        (λ k g. elim g [ inl e ↦ subst (Has f) e (inside, λ l at_l. subst (λ x. HasColour colours x f) (one_place nodes are.rising n i l at at_l) has) | inr h ↦ absurd h ])
        (λ a b h e. (inside_on a b h.0 e, λ l at_l. (let place = place_from nodes a h.0.among in coloured.closed place.0 l f a b (h.1 place.0 place.1) place.1 at_l e))) m w).1 j at_j

    pub own_colour : (q : Port) (ns : List Node) (a : IsPieceNamed G ask nodes q ns) (i : ℕ) → IsAt nodes i a.first → HasColour colours i i
    own_colour q ns a i at =
        let w = coloured.whole i a.first (slice_get_within nodes i a.first at) at a.collapsed.collapsed in
        let f = w.0 in
        let way = coloured.led i f w.1 in
        let to : way.node ≡ a.first = some_same way.node a.first (sym way.at_node ∙ at) in
        let walk : Walk (passes G ask) (way.first ∷ []) a.first = subst (Walk (passes G ask) (way.first ∷ [])) to way.walk in
        let low = coloured.least i f w.1 in
        let start : IsInside way.first = record { among = contains_at nodes f way.first way.at_first; collapsed = coloured.collapsed f f way.first (coloured.own i f w.1) way.at_first } in
        let back = walk_back way.first a.first start walk in
        let le : is_le (port_cmp q (way.first).port) ≡ true = a.least way.first ((a.reach.exact way.first).1 back) in
        elim (cases_lt f i) [
          | inl less ↦
              let before : port_cmp (way.first).port (a.first).port ≡ Less = ports_less G ask nodes are roles are_roles f i way.first a.first less way.at_first at in
              absurd (less_not_le (way.first).port q (subst (λ x. port_cmp (way.first).port x ≡ Less) a.named before) le)
          | inr high ↦ (let same : f ≡ i = omega arith in subst (HasColour colours i) same w.1)
        ]

    -- each of its nodes has the place of its first as its colour
    pub piece_colour : (q : Port) (ns : List Node) (a : IsPieceNamed G ask nodes q ns) (i j : ℕ) (m : Node) → IsAt nodes i a.first → Contains ns m → IsAt nodes j m → HasColour colours j i
    piece_colour q ns a i j m at has at_m = colour_along i i a.first m (own_colour q ns a i at) at (record { among = a.collapsed.among; collapsed = a.collapsed.collapsed }) ((a.reach.exact m).0 has) j at_m

    module _ (pieces : List Piece) (all : ArePieces G ask nodes colours (length nodes) pieces) where
      pub exact_pieces : (p : Piece) → Contains pieces p ↔ IsPiece G ask nodes p
      exact_pieces p = (
        λ h. (all.sound p h).is,
        λ is.
            let i = place_from nodes is.are.first is.are.collapsed.among in
            let own = own_colour p.name is.nodes is.are i.0 i.1 in
            let r = all.whole i.0 is.are.first (slice_get_within nodes i.0 is.are.first i.1) own i.1 in
            let named : (r.0).name ≡ p.name = r.2 ∙ is.are.named in
            subst (Contains pieces) (same_piece r.0 p (all.sound r.0 r.1).is is named) r.1,
      )

      to_edge : (e : Edge) → IsEdgeBelow G ask nodes colours (length nodes) e → IsEdge G ask nodes e
      to_edge e b = elim b.to [
        | inl (low, kept, port) ↦ inl (record {
          one = b.one;
          other = b.other;
          one_kept = record { among = contains_at nodes b.i b.one b.at_one; kept = b.kept };
          other_kept = record { among = contains_at nodes b.j b.other b.at_other; kept = kept };
          linked = b.linked;
          lesser_first = ports_less G ask nodes are roles are_roles b.i b.j b.one b.other low b.at_one b.at_other;
          from = b.from;
          to = sym port;
        })
        | inr (f, h, has, at_h, port) ↦
            let r = all.whole f h (coloured.below b.j f has) (coloured.own b.j f has) at_h in
            let is = (all.sound r.0 r.1).is in
            let name : (r.0).name ≡ e.to = r.2 ∙ port in
            let way = coloured.led b.j f has in
            let node : way.node ≡ b.other = some_same way.node b.other (sym way.at_node ∙ b.at_other) in
            let begin : way.first ≡ h = some_same way.first h (sym way.at_first ∙ at_h) in
            let first : is.are.first ≡ h = are.linked.own_ports is.are.first h is.are.collapsed.among (contains_at nodes f h at_h) (is.are.named ∙ r.2) in
            let walk : Walk (passes G ask) (is.are.first ∷ []) b.other = subst (λ x. Walk (passes G ask) (x ∷ []) b.other) (begin ∙ sym first) (subst (Walk (passes G ask) (way.first ∷ [])) node way.walk) in
            inr (record {
              one = b.one;
              other = b.other;
              nodes = is.nodes;
              one_kept = record { among = contains_at nodes b.i b.one b.at_one; kept = b.kept };
              piece = subst (λ q. IsPieceNamed G ask nodes q is.nodes) name is.are;
              inside = (is.are.reach.exact b.other).1 walk;
              linked = b.linked;
              from = b.from;
            })
      ]

      from_edge : (e : Edge) → IsEdge G ask nodes e → IsEdgeBelow G ask nodes colours (length nodes) e
      from_edge e h = elim h [
        | inl j ↦
            let i = place_from nodes j.one j.one_kept.among in
            let k = place_from nodes j.other j.other_kept.among in
            record {
              i = i.0;
              j = k.0;
              one = j.one;
              other = j.other;
              below = slice_get_within nodes i.0 j.one i.1;
              at_one = i.1;
              at_other = k.1;
              kept = j.one_kept.kept;
              linked = j.linked;
              from = j.from;
              to = inl (
                elim (cases_lt i.0 k.0) [
                  | inl less ↦ less
                  | inr high ↦ elim (cases_lt k.0 i.0) [
                    | inl less ↦ absurd (not_less_both (j.one).port (j.other).port j.lesser_first (ports_less G ask nodes are roles are_roles k.0 i.0 j.other j.one less k.1 i.1))
                    | inr also ↦
                        let place : i.0 ≡ k.0 = omega arith in
                        let same : j.one ≡ j.other = some_same j.one j.other (sym i.1 ∙ ap (slice_get nodes) place ∙ k.1) in
                        absurd (not_less_itself (j.other).port (subst (λ (x : Node). port_cmp x.port (j.other).port ≡ Less) same j.lesser_first))
                  ]
                ],
                j.other_kept.kept,
                sym j.to,
              );
            }
        | inr j ↦
            let a = j.piece in
            let i = place_from nodes j.one j.one_kept.among in
            let other = inside_walk a.first j.other (record { among = a.collapsed.among; collapsed = a.collapsed.collapsed }) ((a.reach.exact j.other).0 j.inside) in
            let k = place_from nodes j.other other.among in
            let f = place_from nodes a.first a.collapsed.among in
            record {
              i = i.0;
              j = k.0;
              one = j.one;
              other = j.other;
              below = slice_get_within nodes i.0 j.one i.1;
              at_one = i.1;
              at_other = k.1;
              kept = j.one_kept.kept;
              linked = j.linked;
              from = j.from;
              to = inr (f.0, a.first, piece_colour e.to j.nodes a f.0 k.0 j.other f.1 j.inside k.1, f.1, a.named);
            }
      ]

      pub exact_edges : (e : Edge) → IsEdgeBelow G ask nodes colours (length nodes) e ↔ IsEdge G ask nodes e
      exact_edges e = (to_edge e, from_edge e)

  -- the kept ports
  pub exact_kept : (q : Port) → Contains (kept_list nodes roles) q ↔ ((n : Node) × IsKept G ask nodes n × (n.port ≡ q))
  exact_kept q = (
    λ h.
        let l = listed_from nodes roles q (among_from_contains (kept_list nodes roles) q h) in
        (l.node, record { among = contains_at nodes l.place l.node l.at; kept = kept_from G ask nodes roles are_roles l.place l.node l.at l.role }, l.port),
    λ (n, kept, port).
        let i = place_from nodes n kept.among in
        contains_from_among (kept_list nodes roles) q (subst (Among (kept_list nodes roles)) port (listed_in nodes roles i.0 n i.1 (kept_role G ask nodes roles are_roles i.0 n i.1 kept.kept))),
  )

  pub kept_sorted : IsStrictlySortedBy port_cmp (kept_list nodes roles)
  kept_sorted = listed_sorted nodes roles are.rising are.linked.own_ports
