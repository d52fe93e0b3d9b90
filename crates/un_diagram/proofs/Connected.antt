-- Each open node is in one place of the diagram, and walks over open nodes go where its edges lead.
use Rattle.std.proofs.Common.{◌≡◌, ◌↔◌, Bool, true, false, not, ◌&&◌, List, [], ◌∷◌, ◌++◌, map, length, ◌⊎◌, inl, inr, refl, sym, ap, subst, ◌∙◌, true≢false, Ordering, Less, Equal, Greater}
use Rattle.std.specs.Prelude.{Contains}
use Rattle.std.specs.List.{AllByRecursion, list_any}
use Rattle.std.specs.List.Sorted.{IsStrictlySortedBy}
use Rattle.std.specs.Option.{option_map}
use Rattle.std.specs.Ordering.{is_le, ordering_reverse}
use Rattle.std.proofs.lemmas.Cmp.{tied_itself}
use Rattle.std.proofs.lemmas.List.{length-map}
use Rattle.std.proofs.lemmas.Option.{slice_get-map}
use Rattle.un_defs.specs.declared.port.Port.{Port}
use Rattle.un_defs.specs.declared.port.Node.{Node}
use Rattle.un_defs.specs.declared.walk.Mode.TheVariants.{Any}
use Rattle.un_defs.specs.Ground.{Ground}
use Rattle.un_defs.specs.Orders.{port_cmp, node_cmp, same_node}
use Rattle.un_defs.specs.Reach.{Walk, IsReach, leads, is_open}
use Rattle.un_defs.proofs.Rising.{Among}
use Rattle.un_defs.proofs.Members.{among_from_contains, contains_from_among, list_any_from_among, among_from_list_any}
use Rattle.un_defs.proofs.OrderLaws.{port_total, port_ties}
use Rattle.un_defs.proofs.LinkCases.{both_true, true_both}
use Rattle.un_defs.proofs.Unique.{node_same, node_itself}
use Rattle.un_defs.proofs.Walking.{reached_have, walk_from_start, walk_on}
use Rattle.un_walk.specs.Spread.{reached_in}
use Rattle.un_walk.proofs.Spreading.{reached_is_reach}
use Rattle.un_ask.specs.declared.typed.DiagramAsk.{DiagramAsk}
use Rattle.un_ask.specs.declared.results.Piece.{Piece}
use Rattle.un_ask.specs.declared.results.Edge.{Edge}
use Rattle.un_diagram.specs.declared.roles.Role.{Role}
use Rattle.un_diagram.specs.Diagram.{Diagram, is_chosen, is_kept, is_collapsed, passes, features_of, IsKept, IsPieceNamed}
use Rattle.un_diagram.specs.Places.{IsNetwork, AreRoles, role_of}
use Rattle.un_diagram.specs.Laws.{IsDiagramOf, HasNode, IsInNoPiece, IsInOnePiece, goes_open, IsShown, AreNeighbours, IsLine}
use Rattle.un_diagram.proofs.Reaching.{is_network}
use Rattle.un_diagram.proofs.Linking.{leads_back}
use Rattle.un_diagram.proofs.Colouring.{passes_on}
use Rattle.un_diagram.proofs.Piecing.{port_le}
use Rattle.un_diagram.proofs.Drawn.{IsInside, inside_on, inside_walk, walk_join, walk_back, same_piece, less_not_le}

head_least : (h : Node) (t : List Node) → IsStrictlySortedBy node_cmp (h ∷ t) → (m : Node) → Among t m → node_cmp h m ≡ Less
unfolding IsStrictlySortedBy
head_least h t s m g = go t s.0 g
  where
    go : (l : List Node) → AllByRecursion (λ x. node_cmp h x ≡ Less) l → Among l m → node_cmp h m ≡ Less
    go [] a g = absurd g
    go (x ∷ l) a g = elim g [ inl e ↦ subst (λ y. node_cmp h y ≡ Less) e a.0 | inr i ↦ go l a.1 i ]

le_both : (q r : Port) → is_le (port_cmp q r) ≡ true → is_le (port_cmp r q) ≡ true → q ≡ r
le_both q r a b = go (port_cmp q r) refl
  where
    go : (k : Ordering) → port_cmp q r ≡ k → q ≡ r
    go Less e = absurd (less_not_le q r e b)
    go Equal e = port_ties q r e
    go Greater e = absurd (true≢false (sym a ∙ ap is_le e))

has_by : (nodes : List Node) (n : Node) → Contains nodes n → list_any (same_node n) nodes ≡ true
has_by nodes n h = list_any_from_among (same_node n) nodes n (among_from_contains nodes n h) (node_itself n)

by_has : (nodes : List Node) (n : Node) → list_any (same_node n) nodes ≡ true → Among nodes n
by_has nodes n e = let m = among_from_list_any (same_node n) nodes e in subst (Among nodes) (sym (node_same n m.0 m.2)) m.1

module _ (G : Ground) (ask : DiagramAsk) (reached : List Node) (d : Diagram) (of : IsDiagramOf G ask reached d) where
  net : IsNetwork G ask.barriers reached
  net = is_network G ask reached of.reach of.linked of.untiered

  abbrev roles : List Role
  roles = map (role_of G ask) reached

  are_roles : AreRoles G ask reached roles
  are_roles = record {
    count = length-map reached (role_of G ask);
    are = λ i n at. slice_get-map (role_of G ask) reached i ∙ ap (option_map (role_of G ask)) at;
  }

  abbrev Inside : Node → Type 0
  Inside = IsInside G ask reached net roles are_roles

  abbrev Goes : Node → Node → Type 0
  Goes a b = Walk (passes G ask) (a ∷ []) b

  kept_clash : (n : Node) → is_kept G ask n ≡ true → is_collapsed G ask n ≡ true → ⊥
  kept_clash n k c = go (is_chosen G ask n) (both_true (is_open G ask.barriers n) _ k).1 (both_true (is_open G ask.barriers n) _ c).1
    where
      go : (b : Bool) → b ≡ true → not b ≡ true → ⊥
      go true e f = true≢false (sym f)
      go false e f = true≢false (sym e)

  here : (n : Node) → Goes n n
  here n = walk_from_start (passes G ask) (n ∷ []) n (inl refl)

  join : (a b c : Node) → Goes a b → Goes b c → Goes a c
  join a b c v w = walk_join G ask reached net roles are_roles a b c v w

  back : (a b : Node) → Inside a → Goes a b → Goes b a
  back a b h w = walk_back G ask reached net roles are_roles a b h w

  first_inside : (q : Port) (ns : List Node) (a : IsPieceNamed G ask reached q ns) → Inside a.first
  first_inside q ns a = record { among = a.collapsed.among; collapsed = a.collapsed.collapsed }

  member_inside : (q : Port) (ns : List Node) (a : IsPieceNamed G ask reached q ns) (n : Node) → Contains ns n → Inside n
  member_inside q ns a n h = inside_walk G ask reached net roles are_roles a.first n (first_inside q ns a) ((a.reach.exact n).0 h)

  -- ---- each collapsed node is in one piece

  abbrev step : Node → Node → Bool
  step n m = (list_any (same_node n) reached && list_any (same_node m) reached) && passes G ask n m

  listed : (n : Node) → IsReach step (n ∷ []) (reached_in step reached (n ∷ []))
  listed n = reached_is_reach step reached (n ∷ []) (λ a b e. by_has reached b (both_true (list_any (same_node a) reached) _ (both_true (list_any (same_node a) reached && list_any (same_node b) reached) _ e).0).1)

  listed_walk : (n m : Node) → Walk step (n ∷ []) m → Goes n m
  listed_walk n m w = reached_have step (n ∷ []) (Goes n) (λ k g. walk_from_start (passes G ask) (n ∷ []) k g)
      (λ a b v e. walk_on (passes G ask) (n ∷ []) a b v (both_true (list_any (same_node a) reached && list_any (same_node b) reached) _ e).1) m w

  abbrev Both : Node → Node → Type 0
  Both n k = Inside k × Walk step (n ∷ []) k

  walk_listed : (n m : Node) → Inside n → Goes n m → Walk step (n ∷ []) m
  walk_listed n m h w = (reached_have (passes G ask) (n ∷ []) (Both n)
      (λ k g. elim g [ inl e ↦ subst (Both n) e (h, walk_from_start step (n ∷ []) n (inl refl)) | inr f ↦ absurd f ])
      (λ a b v e.
      let there = inside_on G ask reached net roles are_roles a b v.0 e in
      (there, walk_on step (n ∷ []) a b v.1 (true_both _ _ (true_both _ _ (has_by reached a v.0.among) (has_by reached b there.among)) e))) m w).1

  -- the piece of a collapsed node
  pub record HasPiece (n : Node) : Type 0 where
    pub piece : Piece
    pub among : Contains d.pieces piece
    pub has : HasNode G ask reached piece n

  drawn_piece : (q : Port) (ns : List Node) → IsPieceNamed G ask reached q ns → (n : Node) → Contains ns n → (h : HasPiece n) × ((h.piece).name ≡ q)
  drawn_piece q ns a n has =
      let p : Piece = record { name = q; nodes = length ns; features = length (features_of ns) } in (
        record {
          piece = p;
          among = (of.is.pieces p).1 (record { nodes = ns; are = a; count = refl; features = refl });
          has = record { nodes = ns; are = a; has = has };
        },
        refl,
      )

  piece_of : (n : Node) → Inside n → HasPiece n
  piece_of n h = go (reached_in step reached (n ∷ [])) (listed n)
    where
      go : (l : List Node) → IsReach step (n ∷ []) l → HasPiece n
      go [] r = absurd (among_from_contains [] n ((r.exact n).1 (walk_from_start step (n ∷ []) n (inl refl))))
      go (f ∷ t) r =
          let to_first : Goes n f = listed_walk n f ((r.exact f).0 (contains_from_among (f ∷ t) f (inl refl))) in
          let first : Inside f = inside_walk G ask reached net roles are_roles n f h to_first in
          let from_first : Goes f n = back n f h to_first in
          let a : IsPieceNamed G ask reached f.port (f ∷ t) = record {
            first = f;
            collapsed = record { among = first.among; collapsed = first.collapsed };
            named = refl;
            reach = record {
              rising = r.rising;
              exact = λ m. (
                λ g. join f n m from_first (listed_walk n m ((r.exact m).0 g)),
                λ w. (r.exact m).1 (walk_listed n m h (join n f m to_first w)),
              );
            };
            least = λ m g. elim (among_from_contains (f ∷ t) m g) [
              | inl e ↦ subst (λ x. is_le (port_cmp f.port x.port) ≡ true) e (ap is_le (tied_itself port_total f.port))
              | inr i ↦ port_le f m (head_least f t r.rising m i)
            ];
          } in
          (drawn_piece f.port (f ∷ t) a n ((r.exact n).1 (walk_from_start step (n ∷ []) n (inl refl)))).0

  -- pieces with a node in common are one
  one_piece : (p r : Piece) (n : Node) → Contains d.pieces p → Contains d.pieces r → HasNode G ask reached p n → HasNode G ask reached r n → p ≡ r
  one_piece p r n in_p in_r a b =
      let f = a.are.first in
      let g = b.are.first in
      let from_f : Goes f n = (a.are.reach.exact n).0 a.has in
      let from_g : Goes g n = (b.are.reach.exact n).0 b.has in
      let f_g : Goes f g = join f n g from_f (back g n (first_inside r.name b.nodes b.are) from_g) in
      let g_f : Goes g f = join g n f from_g (back f n (first_inside p.name a.nodes a.are) from_f) in
      let low : is_le (port_cmp p.name r.name) ≡ true = subst (λ q. is_le (port_cmp p.name q) ≡ true) b.are.named (a.are.least g ((a.are.reach.exact g).1 f_g)) in
      let high : is_le (port_cmp r.name p.name) ≡ true = subst (λ q. is_le (port_cmp r.name q) ≡ true) a.are.named (b.are.least f ((b.are.reach.exact f).1 g_f)) in
      same_piece G ask reached net roles are_roles p r ((of.is.pieces p).0 in_p) ((of.is.pieces r).0 in_r) (le_both p.name r.name low high)

  abbrev InOnePlace : Node → Type 0
  InOnePlace n = IsInNoPiece G ask reached d n ⊎ IsInOnePiece G ask reached d n

  pub in_one_place : (n : Node) → Contains reached n → is_open G ask.barriers n ≡ true → InOnePlace n
  in_one_place n has free = go (is_chosen G ask n) refl
    where
      go : (b : Bool) → is_chosen G ask n ≡ b → InOnePlace n
      go true e =
          let kept : is_kept G ask n ≡ true = true_both (is_open G ask.barriers n) _ free e in
          inl (record {
            kept = record { among = has; kept = kept };
            none = λ p among h. kept_clash n kept (member_inside p.name h.nodes h.are n h.has).collapsed;
          })
      go false e =
          let gone : is_collapsed G ask n ≡ true = true_both (is_open G ask.barriers n) _ free (ap not e) in
          let h = piece_of n (record { among = has; collapsed = gone }) in
          inr (record {
            left = λ k. kept_clash n k.kept gone;
            piece = h.piece;
            among = h.among;
            has = h.has;
            only = λ p among also. one_piece p h.piece n among h.among also h.has;
          })

  -- ---- connection

  -- how a node is named in the diagram
  abbrev IsNamed : Port → Node → Type 0
  IsNamed q n = (IsKept G ask reached n × (n.port ≡ q)) ⊎ ((h : HasPiece n) × ((h.piece).name ≡ q))

  name_of : (n : Node) → Contains reached n → is_open G ask.barriers n ≡ true → (q : Port) × IsNamed q n
  name_of n has free = elim (in_one_place n has free) [
    | inl k ↦ (n.port, inl (k.kept, refl))
    | inr o ↦ ((o.piece).name, inr (record { piece = o.piece; among = o.among; has = o.has }, refl))
  ]

  shown : (q : Port) (n : Node) → IsNamed q n → IsShown d q
  shown q n named = elim named [
    | inl (kept, port) ↦ inl ((of.is.kept q).1 (n, kept, port))
    | inr (h, name) ↦ inr (h.piece, h.among, name)
  ]

  named_among : (q : Port) (n : Node) → IsNamed q n → Contains reached n
  named_among q n named = elim named [
    | inl (kept, port) ↦ kept.among
    | inr (h, name) ↦ (member_inside (h.piece).name h.has.nodes h.has.are n h.has.has).among
  ]

  named_open : (q : Port) (n : Node) → IsNamed q n → is_open G ask.barriers n ≡ true
  named_open q n named = elim named [
    | inl (kept, port) ↦ (both_true (is_open G ask.barriers n) _ kept.kept).0
    | inr (h, name) ↦ (both_true (is_open G ask.barriers n) _ (member_inside (h.piece).name h.has.nodes h.has.are n h.has.has).collapsed).0
  ]

  abbrev Open : Node → Node → Type 0
  Open a b = Walk (goes_open G ask) (a ∷ []) b

  open_here : (a : Node) → Open a a
  open_here a = walk_from_start (goes_open G ask) (a ∷ []) a (inl refl)

  open_join : (a b c : Node) → Open a b → Open b c → Open a c
  open_join a b c v w = reached_have (goes_open G ask) (b ∷ []) (Open a)
      (λ k g. elim g [ inl e ↦ subst (Open a) e v | inr f ↦ absurd f ])
      (λ n m u e. walk_on (goes_open G ask) (a ∷ []) n m u e) c w

  -- walks over collapsed nodes are among these
  open_walk : (a b : Node) → Goes a b → Open a b
  open_walk a b w = reached_have (passes G ask) (a ∷ []) (Open a) (λ k g. walk_from_start (goes_open G ask) (a ∷ []) k g)
      (λ n m u e.
      let parts = both_true (is_collapsed G ask n && is_collapsed G ask m) _ e in
      let free = (both_true (is_open G ask.barriers m) _ (both_true (is_collapsed G ask n) _ parts.0).1).0 in
      walk_on (goes_open G ask) (a ∷ []) n m u (true_both _ _ parts.1 free)) b w

  -- a kept node has no port of a piece
  apart : (q : Port) (n : Node) → IsKept G ask reached n → n.port ≡ q → (p : Piece) (m : Node) → HasNode G ask reached p m → p.name ≡ q → ⊥
  apart q n kept port p m h name =
      let same : n ≡ h.are.first = of.linked.own_ports n h.are.first kept.among h.are.collapsed.among (port ∙ sym name ∙ sym h.are.named) in
      kept_clash h.are.first (subst (λ x. is_kept G ask x ≡ true) same kept.kept) h.are.collapsed.collapsed

  -- from a node with a name walks go to each with this name
  same_name : (q : Port) (a b : Node) → IsNamed q a → IsNamed q b → Open a b
  same_name q a b one other = elim one [
    | inl (kept, port) ↦ elim other [
      | inl (also, same) ↦ subst (Open a) (of.linked.own_ports a b kept.among also.among (port ∙ sym same)) (open_here a)
      | inr (h, name) ↦ absurd (apart q a kept port h.piece b h.has name)
    ]
    | inr (h, name) ↦ elim other [
      | inl (also, same) ↦ absurd (apart q b also same h.piece a h.has name)
      | inr (k, named) ↦
          let f = h.has.are.first in
          let g = k.has.are.first in
          let same : f ≡ g = of.linked.own_ports f g h.has.are.collapsed.among k.has.are.collapsed.among (h.has.are.named ∙ name ∙ sym named ∙ sym k.has.are.named) in
          let to_first : Goes a f = back f a (first_inside (h.piece).name h.has.nodes h.has.are) ((h.has.are.reach.exact a).0 h.has.has) in
          let from_first : Goes f b = subst (λ x. Goes x b) (sym same) ((k.has.are.reach.exact b).0 k.has.has) in
          open_walk a b (join a f b to_first from_first)
    ]
  ]

  -- two nodes with these names, and a step from one to the other
  record Bridge (q s : Port) : Type 0 where
    one : Node
    other : Node
    one_named : IsNamed q one
    other_named : IsNamed s other
    linked : leads G ask.barriers Any one other ≡ true

  bridge_of : (e : Edge) → Contains d.edges e → Bridge e.from e.to
  bridge_of e h = elim ((of.is.edges e).0 h) [
    | inl j ↦ record { one = j.one; other = j.other; one_named = inl (j.one_kept, sym j.from); other_named = inl (j.other_kept, sym j.to); linked = j.linked }
    | inr j ↦ record { one = j.one; other = j.other; one_named = inl (j.one_kept, sym j.from); other_named = inr (drawn_piece e.to j.nodes j.piece j.other j.inside); linked = j.linked }
  ]

  turned : (q s : Port) → Bridge q s → Bridge s q
  turned q s b = record {
    one = b.other;
    other = b.one;
    one_named = b.other_named;
    other_named = b.one_named;
    linked = leads_back G ask.barriers reached net b.one b.other (named_among q b.one b.one_named) (named_among s b.other b.other_named) b.linked (named_open s b.other b.other_named);
  }

  bridge : (q s : Port) → AreNeighbours d q s → Bridge q s
  bridge q s h = elim h [
    | inl e ↦ bridge_of (record { from = q; to = s }) e
    | inr e ↦ turned s q (bridge_of (record { from = s; to = q }) e)
  ]

  line_walk : (names : List Port) (q r : Port) (a b : Node) → IsLine d q names r → IsNamed q a → IsNamed r b → Open a b
  line_walk [] q r a b line one other = same_name r a b (subst (λ x. IsNamed x a) line one) other
  line_walk (s ∷ ss) q r a b line one other =
      let x = bridge q s line.1 in
      let first : Open a x.one = same_name q a x.one one x.one_named in
      let next : Open a x.other = walk_on (goes_open G ask) (a ∷ []) x.one x.other first (true_both _ _ x.linked (named_open s x.other x.other_named)) in
      open_join a x.other b next (line_walk ss s r x.other b line.2 x.other_named other)

  line_push : (names : List Port) (q r s : Port) → IsLine d q names r → IsShown d s → AreNeighbours d r s → IsLine d q (names ++ s ∷ []) s
  line_push [] q r s line shows near = (shows, subst (λ x. AreNeighbours d x s) (sym line) near, refl)
  line_push (x ∷ xs) q r s line shows near = (line.0, line.1, line_push xs x r s line.2 shows near)

  joins_piece : (a b : Node) (q s : Port) → IsKept G ask reached a → a.port ≡ q → (h : HasPiece b) → (h.piece).name ≡ s → leads G ask.barriers Any a b ≡ true → Contains d.edges (record { from = q; to = s })
  joins_piece a b q s kept port h name l = (of.is.edges (record { from = q; to = s })).1 (inr (record {
    one = a;
    other = b;
    nodes = h.has.nodes;
    one_kept = kept;
    piece = subst (λ x. IsPieceNamed G ask reached x h.has.nodes) name h.has.are;
    inside = h.has.has;
    linked = l;
    from = sym port;
  }))

  joins_kept : (a b : Node) (q s : Port) → IsKept G ask reached a → IsKept G ask reached b → a.port ≡ q → b.port ≡ s → leads G ask.barriers Any a b ≡ true → port_cmp a.port b.port ≡ Less → Contains d.edges (record { from = q; to = s })
  joins_kept a b q s kept also port same l less = (of.is.edges (record { from = q; to = s })).1 (inl (record {
    one = a;
    other = b;
    one_kept = kept;
    other_kept = also;
    linked = l;
    lesser_first = less;
    from = sym port;
    to = sym same;
  }))

  -- a step joins two nodes of one name, or of neighbours
  stepped : (a b : Node) (q s : Port) → IsNamed q a → IsNamed s b → leads G ask.barriers Any a b ≡ true → (q ≡ s) ⊎ AreNeighbours d q s
  stepped a b q s one other l = elim one [
    | inl (kept, port) ↦ elim other [
      | inl (also, same) ↦ both_kept kept port also same (port_cmp a.port b.port) refl
      | inr (h, name) ↦ inr (inl (joins_piece a b q s kept port h name l))
    ]
    | inr (h, name) ↦ elim other [
      | inl (also, same) ↦ inr (inr (joins_piece b a s q also same h name l_back))
      | inr (k, named) ↦
          let in_a = member_inside (h.piece).name h.has.nodes h.has.are a h.has.has in
          let in_b = member_inside (k.piece).name k.has.nodes k.has.are b k.has.has in
          let on : Goes h.has.are.first b = walk_on (passes G ask) (h.has.are.first ∷ []) a b ((h.has.are.reach.exact a).0 h.has.has) (passes_on G ask reached net roles are_roles a b in_a.collapsed in_b.collapsed l) in
          let same : h.piece ≡ k.piece = one_piece h.piece k.piece b h.among k.among (record { nodes = h.has.nodes; are = h.has.are; has = (h.has.are.reach.exact b).1 on }) k.has in
          inl (sym name ∙ ap (λ (p : Piece). p.name) same ∙ named)
    ]
  ]
    where
      l_back : leads G ask.barriers Any b a ≡ true
      l_back = leads_back G ask.barriers reached net a b (named_among q a one) (named_among s b other) l (named_open s b other)

      both_kept : IsKept G ask reached a → a.port ≡ q → IsKept G ask reached b → b.port ≡ s → (k : Ordering) → port_cmp a.port b.port ≡ k → (q ≡ s) ⊎ AreNeighbours d q s
      both_kept kept port also same Less e = inr (inl (joins_kept a b q s kept also port same l e))
      both_kept kept port also same Equal e = inl (sym port ∙ port_ties a.port b.port e ∙ same)
      both_kept kept port also same Greater e = inr (inr (joins_kept b a s q also kept same port l_back (port_total.antisymm b.port a.port ∙ ap ordering_reverse e)))

  -- the nodes to which walks over open nodes lead are named along a line
  record Reaches (start n : Node) : Type 0 where
    among : Contains reached n
    opened : is_open G ask.barriers n ≡ true
    line : (q : Port) → IsNamed q n → (names : List Port) × IsLine d start.port names q

  walk_line : (n m : Node) → IsKept G ask reached n → IsKept G ask reached m → Open n m → (names : List Port) × IsLine d n.port names m.port
  walk_line n m kept also w = (reached_have (goes_open G ask) (n ∷ []) (Reaches n)
      (λ k g. elim g [ inl e ↦ subst (Reaches n) e begin | inr f ↦ absurd f ]) on m w).line m.port (inl (also, refl))
    where
      begin : Reaches n n
      begin = record {
        among = kept.among;
        opened = (both_true (is_open G ask.barriers n) _ kept.kept).0;
        line = λ q named. elim named [
          | inl (_, port) ↦ ([], port)
          | inr (h, name) ↦ absurd (kept_clash n kept.kept (member_inside (h.piece).name h.has.nodes h.has.are n h.has.has).collapsed)
        ];
      }

      on : (a b : Node) → Reaches n a → goes_open G ask a b ≡ true → Reaches n b
      on a b r e =
          let parts = both_true (leads G ask.barriers Any a b) _ e in
          let (q, named) = name_of a r.among r.opened in
          let (names, line) = r.line q named in
          record {
            among = net.closed a b r.among parts.0;
            opened = parts.1;
            line = λ s also. elim (stepped a b q s named also parts.0) [
              | inl same ↦ (names, subst (IsLine d n.port names) same line)
              | inr near ↦ (names ++ s ∷ [], line_push names n.port q s line (shown s b also) near)
            ];
          }

  pub connected : (n m : Node) → IsKept G ask reached n → IsKept G ask reached m → Open n m ↔ ((names : List Port) × IsLine d n.port names m.port)
  connected n m kept also = (walk_line n m kept also, λ (names, line). line_walk names n.port m.port n m line (inl (kept, refl)) (inl (also, refl)))
