-- The places of a colour are a piece, and the pieces rise by their names.
use Rattle.std.proofs.Common.{◌≡◌, ℕ, suc, ◌+◌, ◌<◌, true, ◌&&◌, List, [], ◌∷◌, ◌++◌, map, length, Option, Some, inl, inr, refl, sym, ap, subst, ◌∙◌, arith, Ordering, Less, Equal, Greater}
use Rattle.std.specs.Prelude.{slice_get, Contains, IsTrue}
use Rattle.std.specs.List.{AllByRecursion, cons_option}
use Rattle.std.specs.List.Sorted.{IsStrictlySortedBy}
use Rattle.std.specs.Ordering.{ordering_then, match_ordering, is_le}
use Rattle.std.specs.BTreeSet.{insert_key}
use Rattle.std.specs.FinMap.{IsAntisymmetric, nat_cmp-IsAntisymmetric}
use Rattle.std.proofs.lemmas.Bool.{cases_lt}
use Rattle.std.proofs.lemmas.Cmp.{tied_itself, nat_cmp_total}
use Rattle.std.proofs.lemmas.List.Elements.{Contains-append_left, Contains-push, Contains-push_cases}
use Rattle.un_geom.specs.Places.{point_cmp}
use Rattle.un_defs.specs.declared.port.Node.{Node}
use Rattle.un_defs.specs.declared.walk.Mode.TheVariants.{Any}
use Rattle.un_defs.specs.Ground.{Ground}
use Rattle.un_defs.specs.Orders.{rising, port_cmp, node_cmp}
use Rattle.un_defs.specs.Reach.{Walk, leads}
use Rattle.un_defs.proofs.Rising.{Among, among-rising, among_from-rising, sorted-rising, rising_same}
use Rattle.un_defs.proofs.Members.{among_from_contains, contains_from_among, among-map, among_from-map, among-filter_map, among_from-filter_map}
use Rattle.un_defs.proofs.OrderLaws.{node_total, node_ties, port_total, port_ties}
use Rattle.un_defs.proofs.LinkCases.{some_same, both_true}
use Rattle.un_defs.proofs.Walking.{reached_have}
use Rattle.un_ask.specs.declared.typed.DiagramAsk.{DiagramAsk}
use Rattle.un_ask.specs.declared.results.Piece.{Piece}
use Rattle.un_diagram.specs.declared.roles.Role.{Role}
use Rattle.un_diagram.specs.Diagram.{is_collapsed, passes, features_of, IsPieceNamed, IsPiece}
use Rattle.un_diagram.specs.Places.{IsAt, IsNetwork, AreRoles}
use Rattle.un_diagram.specs.Colours.{EachOnce, nodes_at, IsLed, IsSpread, AreColoured, IsPieceAt, ArePieces}
use Rattle.un_diagram.proofs.Colouring.{least_member, members_closed}
use Rattle.un_diagram.proofs.Placing.{contains_at, place_from, less_at, one_place}

-- ---- lists

by_rank : {A : Type 0} (P : List A → Type 0) (k : Ordering) (xs ys zs : List A) → (k ≡ Less → P xs) → (k ≡ Equal → P ys) → (k ≡ Greater → P zs) → P (match_ordering k xs ys zs)
by_rank P Less xs ys zs a b c = a refl
by_rank P Equal xs ys zs a b c = b refl
by_rank P Greater xs ys zs a b c = c refl

-- no element stands twice
abbrev Distinct : {A : Type 0} → List A → Type 0
Distinct [] = Unit {0}
Distinct (x ∷ xs) = (Among xs x → ⊥) × Distinct xs

module _ {A : Type 0} (cmp : A → A → Ordering) where
  length_inserted : (ys : List A) (k : A) → ((y : A) → Among ys y → cmp k y ≡ Equal → ⊥) → length (insert_key cmp ys k) ≡ suc (length ys)
  length_inserted [] k apart = refl
  length_inserted (y ∷ ys) k apart =
      by_rank (λ l. length l ≡ suc (suc (length ys))) (cmp k y) (k ∷ y ∷ ys) (y ∷ ys) (y ∷ insert_key cmp ys k)
      (λ e. refl) (λ e. absurd (apart y (inl refl) e)) (λ e. ap suc (length_inserted ys k (λ z h. apart z (inr h))))

  -- sorting keeps the length of a list without repeats
  length_rising : IsAntisymmetric cmp → (xs : List A) → Distinct xs → length (rising cmp xs) ≡ length xs
  length_rising ties [] d = refl
  length_rising ties (x ∷ xs) d =
      length_inserted (rising cmp xs) x (λ y h e. d.0 (subst (Among xs) (sym (ties x y e)) (among_from-rising cmp xs y h))) ∙ ap suc (length_rising ties xs d.1)

  all_push : (P : A → Type 0) (xs : List A) (y : A) → AllByRecursion P xs → P y → AllByRecursion P (xs ++ y ∷ [])
  all_push P [] y h p = (p, tt)
  all_push P (x ∷ xs) y h p = (h.0, all_push P xs y h.1 p)

  -- a list in order with one element more that comes after all
  pub sorted_push : (xs : List A) (y : A) → IsStrictlySortedBy cmp xs → ((x : A) → Among xs x → cmp x y ≡ Less) → IsStrictlySortedBy cmp (xs ++ y ∷ [])
  unfolding IsStrictlySortedBy
  sorted_push [] y s h = (tt, tt)
  sorted_push (x ∷ xs) y s h = (all_push (λ z. cmp x z ≡ Less) xs y s.0 (h x (inl refl)), sorted_push xs y s.1 (λ z g. h z (inr g)))

map_push : {X Y : Type 0} (f : X → Y) (xs : List X) (y : X) → map f (xs ++ y ∷ []) ≡ map f xs ++ f y ∷ []
map_push f [] y = refl
map_push f (x ∷ xs) y = ap (λ l. f x ∷ l) (map_push f xs y)

-- as many nodes as places
nodes_count : (nodes : List Node) (places : List ℕ) → ((i : ℕ) → Among places i → (n : Node) × IsAt nodes i n) → length (nodes_at nodes places) ≡ length places
nodes_count nodes [] h = refl
nodes_count nodes (i ∷ is) h =
    ap (λ o. length (cons_option o (nodes_at nodes is))) (h i (inl refl)).1 ∙ ap suc (nodes_count nodes is (λ j g. h j (inr g)))

-- and each once where the places are
nodes_distinct : (nodes : List Node) → IsStrictlySortedBy node_cmp nodes → (places : List ℕ) → ((i : ℕ) → Among places i → (n : Node) × IsAt nodes i n) → EachOnce places → Distinct (nodes_at nodes places)
nodes_distinct nodes sorted [] h once = tt
nodes_distinct nodes sorted (i ∷ is) h once =
    let n = h i (inl refl) in
    let rest : Distinct (nodes_at nodes is) = nodes_distinct nodes sorted is (λ j g. h j (inr g)) once.1 in
    let apart : Among (nodes_at nodes is) n.0 → ⊥ = λ g.
    let j = among_from-filter_map (slice_get nodes) is n.0 g in
    let same : j.0 ≡ i = one_place nodes sorted n.0 j.0 i j.2 n.1 in
    once.0 (contains_from_among is i (subst (Among is) same j.1)) in
    subst (λ o. Distinct (cons_option o (nodes_at nodes is))) (sym n.1) (apart, rest)

-- ---- orders of nodes and ports

pub port_less : (n m : Node) → (n.port ≡ m.port → ⊥) → node_cmp n m ≡ Less → port_cmp n.port m.port ≡ Less
port_less n m apart e = go (port_cmp n.port m.port) refl e
  where
    go : (k : Ordering) → port_cmp n.port m.port ≡ k → ordering_then k (point_cmp n.at m.at) ≡ Less → k ≡ Less
    go Less is f = refl
    go Equal is f = absurd (apart (port_ties n.port m.port is))
    go Greater is f = f

pub port_le : (n m : Node) → node_cmp n m ≡ Less → is_le (port_cmp n.port m.port) ≡ true
port_le n m e = go (port_cmp n.port m.port) e
  where
    go : (k : Ordering) → ordering_then k (point_cmp n.at m.at) ≡ Less → is_le k ≡ true
    go Less f = refl
    go Equal f = refl
    go Greater f = (let clash : Greater ≡ Less = f in absurd (cc))

pub not_before_itself : (n : Node) → node_cmp n n ≡ Less → ⊥
not_before_itself n e = let same : node_cmp n n ≡ Equal = tied_itself node_total n in let clash : Less ≡ Equal = sym e ∙ same in cc

-- ---- one piece more

module _ (G : Ground) (ask : DiagramAsk) (nodes : List Node) (are : IsNetwork G ask.barriers nodes) (roles : List Role) (are_roles : AreRoles G ask nodes roles) where
  -- of nodes at two places the ports are in order
  pub ports_less : (i j : ℕ) (n m : Node) → i < j → IsAt nodes i n → IsAt nodes j m → port_cmp n.port m.port ≡ Less
  ports_less i j n m low at_n at_m =
      let less = less_at nodes are.rising i j n m low at_n at_m in
      port_less n m (λ e. not_before_itself m (subst (λ k. node_cmp k m ≡ Less) (are.linked.own_ports n m (contains_at nodes i n at_n) (contains_at nodes j m at_m) e) less)) less

  module _ (old : List (Option ℕ)) (k : ℕ) (so_far : AreColoured G ask nodes old k) where
    pub pieces_past : (pieces : List Piece) → ArePieces G ask nodes old k pieces → ArePieces G ask nodes old (k + 1) pieces
    pieces_past pieces all = record {
      rise = all.rise;
      sound = λ p h.
          let at = all.sound p h in
          record { place = at.place; first = at.first; below = (let low = at.below in omega arith); at = at.at; own = at.own; named = at.named; is = at.is };
      whole = λ f n low has at. elim (cases_lt f k) [
        | inl less ↦ all.whole f n less has at
        | inr high ↦ (let less = so_far.below f f has in absurd (omega arith))
      ];
    }

    module _ (new : List (Option ℕ)) (members : List ℕ) (spread : IsSpread G ask nodes k old new members (length members)) (p : Piece)
        (named : (n : Node) → IsAt nodes k n → p.name ≡ n.port) (count : p.nodes ≡ length members) (features : p.features ≡ length (features_of (nodes_at nodes members))) where
      here : IsLed G ask nodes k k
      here = spread.led k spread.begun

      abbrev first : Node
      first = here.node

      abbrev bare : List Node
      bare = nodes_at nodes members

      abbrev all : List Node
      all = rising node_cmp bare

      member_at : (i : ℕ) → Among members i → (n : Node) × IsAt nodes i n
      member_at i h = let way = spread.led i (contains_from_among members i h) in (way.node, way.at_node)

      to_bare : (n : Node) → Among all n → Among bare n
      to_bare n h = among_from-rising node_cmp bare n h

      from_bare : (n : Node) → Among bare n → Among all n
      from_bare n h = among-rising node_cmp bare (λ a b _ _ e. node_ties a b e) n h

      place_in : (n : Node) → Contains all n → (i : ℕ) × Contains members i × IsAt nodes i n
      place_in n h =
          let i = among_from-filter_map (slice_get nodes) members n (to_bare n (among_from_contains all n h)) in
          (i.0, contains_from_among members i.0 i.1, i.2)

      in_by_place : (i : ℕ) (n : Node) → Contains members i → IsAt nodes i n → Contains all n
      in_by_place i n h at = contains_from_among all n (from_bare n (among-filter_map (slice_get nodes) members i n (among_from_contains members i h) at))

      led_from_first : (i : ℕ) (n : Node) → Contains members i → IsAt nodes i n → Walk (passes G ask) (first ∷ []) n
      led_from_first i n h at =
          let way = spread.led i h in
          let begin : way.first ≡ first = some_same way.first first (sym way.at_first ∙ here.at_node) in
          let end : way.node ≡ n = some_same way.node n (sym way.at_node ∙ at) in
          subst (λ s. Walk (passes G ask) (s ∷ []) n) begin (subst (Walk (passes G ask) (way.first ∷ [])) end way.walk)

      -- a member is where a step from a member leads, if that is reached
      abbrev IsMember : Node → Type 0
      IsMember n = (i : ℕ) × Contains members i × IsAt nodes i n

      walked : (n : Node) → Walk (passes G ask) (first ∷ []) n → IsMember n
      walked n w = reached_have (passes G ask) (first ∷ []) IsMember
          (λ m h. (k, spread.begun, elim (among_from_contains (first ∷ []) m (contains_from_among (first ∷ []) m h)) [ inl e ↦ here.at_node ∙ ap Some e | inr g ↦ absurd g ]))
          (λ a b (i, h, at) e.
          let has : Contains nodes b = are.closed a b (contains_at nodes i a at) (step_of a b e) in
          let j = place_from nodes b has in
          (j.0, members_closed G ask nodes are roles are_roles old k so_far new members spread i j.0 a b h at j.1 e, j.1))
          n w
        where
          step_of : (a b : Node) → passes G ask a b ≡ true → IsTrue (leads G ask.barriers Any a b)
          step_of a b e = (both_true (is_collapsed G ask a && is_collapsed G ask b) _ e).1

      named_so : IsPieceNamed G ask nodes p.name all
      named_so = record {
        first = first;
        collapsed = record { among = contains_at nodes k first here.at_node; collapsed = spread.collapsed k first spread.begun here.at_node };
        named = sym (named first here.at_node);
        reach = record {
          rising = sorted-rising node_total bare;
          exact = λ n. (
            λ h. (let i = place_in n h in led_from_first i.0 n i.1 i.2),
            λ w. (let i = walked n w in in_by_place i.0 n i.1 i.2),
          );
        };
        least = λ m h.
            let i = place_in m h in
            let low = least_member G ask nodes are roles are_roles old k so_far new members spread i.0 i.1 in
            subst (λ q. IsTrue (is_le (port_cmp q m.port))) (sym (named first here.at_node)) (elim (cases_lt k i.0) [
              | inl less ↦ port_le first m (less_at nodes are.rising k i.0 first m less here.at_node i.2)
              | inr high ↦
                  let place : i.0 ≡ k = omega arith in
                  let same : first ≡ m = some_same first m (sym here.at_node ∙ ap (slice_get nodes) (sym place) ∙ i.2) in
                  subst (λ x. is_le (port_cmp first.port x.port) ≡ true) same (ap is_le (tied_itself port_total first.port))
            ]);
      }

      pub is_piece : IsPiece G ask nodes p
      is_piece = record {
        nodes = all;
        are = named_so;
        count = count ∙ sym (nodes_count nodes members member_at) ∙ sym (length_rising node_cmp node_ties bare (nodes_distinct nodes are.rising members member_at spread.once));
        features = features ∙ ap length (rising_same nat_cmp_total (map (λ (n : Node). n.port.feature) bare) (map (λ (n : Node). n.port.feature) all)
            (λ a b _ _ e. nat_cmp-IsAntisymmetric a b e) (λ a b _ _ e. nat_cmp-IsAntisymmetric a b e)
            (λ x h. (let n = among_from-map (λ (n : Node). n.port.feature) bare x h in subst (Among (map (λ (n : Node). n.port.feature) all)) n.2 (among-map (λ (n : Node). n.port.feature) all n.0 (from_bare n.0 n.1))))
            (λ x h. (let n = among_from-map (λ (n : Node). n.port.feature) all x h in subst (Among (map (λ (n : Node). n.port.feature) bare)) n.2 (among-map (λ (n : Node). n.port.feature) bare n.0 (to_bare n.0 n.1)))));
      }

      pub pieces_on : (pieces : List Piece) → ArePieces G ask nodes old k pieces → ArePieces G ask nodes new (k + 1) (pieces ++ p ∷ [])
      pieces_on pieces before = record {
        rise = subst (IsStrictlySortedBy port_cmp) (sym (map_push (λ (r : Piece). r.name) pieces p)) (sorted_push port_cmp (map (λ (r : Piece). r.name) pieces) p.name before.rise (λ q h.
            let r = among_from-map (λ (r : Piece). r.name) pieces q h in
            let at = before.sound r.0 (contains_from_among pieces r.0 r.1) in
            let name : (at.first).port ≡ q = at.named ∙ r.2 in
            subst (λ x. port_cmp x p.name ≡ Less) name (subst (λ x. port_cmp (at.first).port x ≡ Less) (sym (named first here.at_node))
            (ports_less at.place k at.first first at.below at.at here.at_node))));
        sound = λ r h. elim (Contains-push_cases pieces p r h) [
          | inl earlier ↦
              let at = before.sound r earlier in
              record { place = at.place; first = at.first; below = (let low = at.below in omega arith); at = at.at; own = spread.kept at.place at.place at.own; named = at.named; is = at.is }
          | inr same ↦ subst (IsPieceAt G ask nodes new (k + 1)) same
              (record { place = k; first = first; below = omega arith; at = here.at_node; own = spread.coloured k spread.begun; named = sym (named first here.at_node); is = is_piece })
        ];
        whole = λ f n low has at. elim (spread.only f f has) [
          | inl was ↦ let r = before.whole f n (so_far.below f f was) was at in (r.0, Contains-append_left pieces (p ∷ []) r.0 r.1, r.2)
          | inr (is, among) ↦ (p, Contains-push pieces p, named n (ap (slice_get nodes) (sym is) ∙ at))
        ];
      }

  pub pieces_none : (colours : List (Option ℕ)) (pieces : List Piece) → pieces ≡ [] → ArePieces G ask nodes colours 0 pieces
  pieces_none colours pieces bare = record {
    rise = subst (λ (l : List Piece). IsStrictlySortedBy port_cmp (map (λ (r : Piece). r.name) l)) (sym bare) (sorted-rising port_total []);
    sound = λ p h. absurd (among_from_contains [] p (subst (λ l. Contains l p) bare h));
    whole = λ f n low. absurd (omega arith);
  }
