-- What is reached over all features is linked as loops and isolation need it, and so is what is reached over clean kept ground.
use Rattle.std.proofs.Common.{◌≡◌, ℕ, Bool, true, false, ◌&&◌, List, [], ◌∷◌, filter, find, slice_get, inl, inr, refl, sym, ap, subst, ◌∙◌, Contains, Option, Some, None, option_and_then}
use Rattle.std.specs.declared.cmp.Ordering.{Ordering}
use Rattle.std.specs.declared.cmp.Ordering.TheVariants.{Less, Equal, Greater}
use Rattle.std.specs.Ordering.{match_ordering}
use Rattle.std.specs.BTreeSet.{insert_key}
use Rattle.std.specs.List.{list_any}
use Rattle.std.specs.Option.{option_map, option_map_or}
use Rattle.un_geom.specs.Rectangle.{Rectangle}
use Rattle.un_geom.specs.Places.{covers}
use Rattle.un_schema.specs.Catalog.{Catalog}
use Rattle.un_defs.specs.declared.port.Node.{Node}
use Rattle.un_defs.specs.declared.port.Port.{Port}
use Rattle.un_defs.specs.declared.link.Tie.{Tie}
use Rattle.un_defs.specs.declared.walk.Mode.{Mode}
use Rattle.un_defs.specs.declared.walk.Barriers.{Barriers}
use Rattle.un_defs.specs.Orders.{rising, least, port_cmp, same_port, same_node}
use Rattle.un_defs.specs.Features.{Features}
use Rattle.un_defs.specs.Ports.{nodes, node_of}
use Rattle.un_defs.specs.Links.{Link}
use Rattle.un_defs.specs.Sound.{IsSound}
use Rattle.un_defs.specs.Ground.{Ground, fresh_ground, ties, is_dirty}
use Rattle.un_defs.specs.Reach.{IsReach, Walk, leads, is_open, goes_by, mode_takes, dirt, area_cmp, areas_over, ports_under}
use Rattle.un_defs.specs.Laws.{IsCovered, FreshLinkedLaw, KeptLinkedLaw}
use Rattle.un_defs.specs.Linked.{IsTied, IsTiedBack, IsSamePair}
use Rattle.un_defs.proofs.Rising.{Among, among_from-rising}
use Rattle.un_defs.proofs.Members.{among_from-filter, among-filter, among-map, contains_from_among, among_from_contains, among_from_list_any, list_any_from_among}
use Rattle.un_defs.proofs.LinkCases.{IsOneOf, both_true, from-node_of, some_same}
use Rattle.un_defs.proofs.Unique.{unique_by, node_same}
use Rattle.un_defs.proofs.Standing.{from_nodes, links_from_ties}
use Rattle.un_defs.proofs.LinkEnds.{name_unique}
use Rattle.un_defs.proofs.BothEnds.{both_ends, from_links, from_ties_by, IsTieBy, at_first, at_second, other_stands}
use Rattle.un_defs.proofs.TwoGrounds.{two_grounds}
use Rattle.un_defs.proofs.Walking.{reached_have}

module _ (S : Catalog) (F : Features) (sound : IsSound S F) (areas : List (ℕ × Rectangle)) where
  -- ---- what is reached stands

  on_standing : (B : Barriers) (mode : Mode) (n m : Node) → Among (nodes F) n → leads (fresh_ground S F areas) B mode n m ≡ true → Among (nodes F) m
  on_standing B mode n m h e =
      let parts = both_true (is_open (fresh_ground S F areas) B n) (list_any (goes_by (fresh_ground S F areas) B mode n m) (ties (fresh_ground S F areas) n)) e in
      let t = among_from_list_any (goes_by (fresh_ground S F areas) B mode n m) (ties (fresh_ground S F areas) n) parts.1 in
      let to : (t.0).to ≡ m = node_same (t.0).to m (both_true (same_node (t.0).to m) (mode_takes mode t.0) (both_true (same_node (t.0).to m && mode_takes mode t.0) _ t.2).0).0 in
      let has = from_links S F n t.0 (links_from_ties S F areas n t.0 t.1) in
      subst (Among (nodes F)) to (other_stands S F sound n has.link t.0 has.is (from_ties_by n has.link t.0 has.by))

  pub reached_stand : (B : Barriers) (mode : Mode) (starts : List Node) → ((n : Node) → Contains starts n → Contains (nodes F) n)
      → (n : Node) → Walk (leads (fresh_ground S F areas) B mode) starts n → Among (nodes F) n
  reached_stand B mode starts standing =
      reached_have (leads (fresh_ground S F areas) B mode) starts (Among (nodes F))
      (λ n h. among_from_contains (nodes F) n (standing n (contains_from_among starts n h))) (on_standing B mode)

  -- ---- the links of nodes

  -- both ends have each link
  pub tied_back : (n m : Node) (t : Tie) → IsTied (fresh_ground S F areas) n m t → IsTiedBack (fresh_ground S F areas) n m t
  tied_back n m t h =
      let stands = subst (λ k. Contains (ties (fresh_ground S F areas) k) (record { name = t.name; to = n; out = t.back; back = t.out })) h.to
      ((both_ends S F sound n t.to t.name t.out t.back).0 h.stands) in
      record { tie = record { name = t.name; to = n; out = t.back; back = t.out }; tied = record { stands = stands; to = refl }; named = refl }

  -- the two nodes of the link that a tie tells
  pub record IsLinkOfTie (n m : Node) (t : Tie) : Type 0 where
    pub link : Link
    pub is : IsOneOf S F link
    pub name : t.name ≡ link.name
    pub pair : IsSamePair n m link.first link.second

  pair_of : (n m : Node) (L : Link) (t : Tie) → t.to ≡ m → IsTieBy n L t → (t.name ≡ L.name) × IsSamePair n m L.first L.second
  pair_of n m L t to (at_first e f) = (ap (λ t. t.name) f, inl (e, sym to ∙ ap (λ t. t.to) f))
  pair_of n m L t to (at_second e f) = (ap (λ t. t.name) f, inr (e, sym to ∙ ap (λ t. t.to) f))

  link_of_tie : (n m : Node) (t : Tie) → IsTied (fresh_ground S F areas) n m t → IsLinkOfTie n m t
  link_of_tie n m t h =
      let has = from_links S F n t (links_from_ties S F areas n t (among_from_contains _ _ h.stands)) in
      let p = pair_of n m has.link t h.to (from_ties_by n has.link t has.by) in
      record { link = has.link; is = has.is; name = p.0; pair = p.1 }

  -- two nodes that are one pair are each other's pair
  same_pairs : (n m k l a b : Node) → IsSamePair n m a b → IsSamePair k l a b → IsSamePair n m k l
  same_pairs n m k l a b h g =
      elim h [
        | inl p ↦ elim g [ inl q ↦ inl (p.0 ∙ sym q.0, p.1 ∙ sym q.1) | inr q ↦ inr (p.0 ∙ sym q.1, p.1 ∙ sym q.0) ]
        | inr p ↦ elim g [ inl q ↦ inr (p.0 ∙ sym q.1, p.1 ∙ sym q.0) | inr q ↦ inl (p.0 ∙ sym q.0, p.1 ∙ sym q.1) ]
      ]

  pub one_pair : (n m k l : Node) (t u : Tie) → IsTied (fresh_ground S F areas) n m t → IsTied (fresh_ground S F areas) k l u → t.name ≡ u.name → IsSamePair n m k l
  one_pair n m k l t u h g e =
      let a = link_of_tie n m t h in
      let b = link_of_tie k l u g in
      let links : a.link ≡ b.link = name_unique S F sound a.link b.link a.is b.is (sym a.name ∙ e ∙ b.name) in
      same_pairs n m k l b.link.first b.link.second (subst (λ L. IsSamePair n m L.first L.second) links a.pair) b.pair

-- ---- ports

-- two standing nodes with one port are one
pub one_port : (S : Catalog) (F : Features) → IsSound S F → (n m : Node) → Among (nodes F) n → Among (nodes F) m → n.port ≡ m.port → n ≡ m
one_port S F sound n m h g e =
    let a = from_nodes F n h in
    let b = from_nodes F m g in
    let ids : a.row.id ≡ b.row.id = sym (from-node_of a.row n.port.number n a.is).feature ∙ ap (λ q. q.feature) e ∙ (from-node_of b.row m.port.number m b.is).feature in
    let rows : a.row ≡ b.row = unique_by (λ r. r.id) F.rows sound.rows a.row b.row a.lives b.lives ids in
    some_same n m (sym a.is ∙ (λ i. node_of (rows i) (e i).number) ∙ b.is)

pub fresh_linked : FreshLinkedLaw
fresh_linked S F areas B mode starts reached sound standing reach =
    let stand : (n : Node) → Contains reached n → Among (nodes F) n = λ n h. reached_stand S F sound areas B mode starts standing n ((reach.exact n).0 h) in
    record {
      both_ends = λ n m t _ _ h. tied_back S F sound areas n m t h;
      own_ports = λ n m h g e. one_port S F sound n m (stand n h) (stand m g) e;
      one_pair = λ n m k l t u _ _ _ _ h g e. one_pair S F sound areas n m k l t u h g e;
    }

-- ---- clean kept ground

none_some : {A : Type 0} (x : A) → ¬ (None ≡ Some x)
none_some x e = cc

clash : {A P : Type 0} (o : Option A) (x : A) → o ≡ None → o ≡ Some x → P
clash o x e f = absurd (none_some x (sym e ∙ f))

-- a list with an element has a least one
inserted_first : {A : Type 0} (cmp : A → A → Ordering) (ys : List A) (k : A) → (x : A) × (slice_get (insert_key cmp ys k) 0 ≡ Some x)
inserted_first cmp [] k = (k, refl)
inserted_first {A = A} cmp (y ∷ ys) k = go (cmp k y)
  where
    go : (o : Ordering) → (x : A) × (slice_get (match_ordering o (k ∷ y ∷ ys) (y ∷ ys) (y ∷ insert_key cmp ys k)) 0 ≡ Some x)
    go Less = (k, refl)
    go Equal = (y, refl)
    go Greater = (y, refl)

least_of_some : {A : Type 0} (cmp : A → A → Ordering) (xs : List A) (x : A) → Among xs x → (y : A) × (least cmp xs ≡ Some y)
least_of_some cmp [] x h = absurd h
least_of_some cmp (y ∷ ys) x h = inserted_first cmp (rising cmp ys) y

first_among : {A : Type 0} (xs : List A) (x : A) → slice_get xs 0 ≡ Some x → Among xs x
first_among [] x e = absurd (none_some x e)
first_among (y ∷ ys) x e = inl (some_same y x e)

least_among : {A : Type 0} (cmp : A → A → Ordering) (xs : List A) (x : A) → least cmp xs ≡ Some x → Among xs x
least_among cmp xs x e = among_from-rising cmp xs x (first_among (rising cmp xs) x e)

-- the least port under an area that covers one of the nodes
port_under : (area : ℕ × Rectangle) (nodes : List Node) (n : Node) → Among nodes n → covers area.1 n.at ≡ true → (q : Port) × (least port_cmp (ports_under area nodes) ≡ Some q)
port_under area nodes n h e =
    least_of_some port_cmp (ports_under area nodes) n.port
    (among-map (λ n. n.port) (filter (λ n. covers area.1 n.at) nodes) n (among-filter (λ n. covers area.1 n.at) nodes n h e))

-- dirt names the least area, and the least port under it
dirt_is : (G : Ground) (nodes : List Node) (a : ℕ × Rectangle) (q : Port) → least area_cmp (areas_over G nodes) ≡ Some a → least port_cmp (ports_under a nodes) ≡ Some q
    → dirt G nodes ≡ Some (record { area = a.0; port = q })
dirt_is G nodes a q e f =
    ap (λ o. option_and_then (λ (area : ℕ × Rectangle). option_map (λ q. record { area = area.0; port = q }) (least port_cmp (ports_under area nodes))) o) e
    ∙ ap (option_map (λ q. record { area = a.0; port = q })) f

-- where there is no dirt no node is dirty
pub clean : (G : Ground) (nodes : List Node) → dirt G nodes ≡ None → (n : Node) → Among nodes n → is_dirty G n.at ≡ false
clean G nodes none n h = go (is_dirty G n.at) refl
  where
    go : (b : Bool) → is_dirty G n.at ≡ b → b ≡ false
    go false e = refl
    go true e =
        let area = among_from_list_any (λ area. covers area.1 n.at) G.areas e in
        let over = among-filter (λ area. list_any (λ m. covers area.1 m.at) nodes) G.areas area.0 area.1
        (list_any_from_among (λ m. covers (area.0).1 m.at) nodes n h area.2) in
        let a = least_of_some area_cmp (areas_over G nodes) area.0 over in
        let covering = among_from-filter (λ area. list_any (λ m. covers area.1 m.at) nodes) G.areas a.0 (least_among area_cmp (areas_over G nodes) a.0 a.1) in
        let m = among_from_list_any (λ m. covers (a.0).1 m.at) nodes covering.1 in
        let q = port_under a.0 nodes m.0 m.1 m.2 in
        clash (dirt G nodes) (record { area = (a.0).0; port = q.0 }) none (dirt_is G nodes a.0 q.0 a.1 q.1)

module _ (S : Catalog) (F : Features) (G : Ground) (covered : IsCovered S F G) where
  same_ties : (n : Node) → is_dirty G n.at ≡ false → ties G n ≡ ties (fresh_ground S F G.areas) n
  same_ties n e = ap (λ star. option_map_or (λ s. s.ties) (find (λ s. same_port s.port n.port) star.spots) []) (covered n.at e)

  fresh_tied : (n m : Node) (t : Tie) → is_dirty G n.at ≡ false → IsTied G n m t → IsTied (fresh_ground S F G.areas) n m t
  fresh_tied n m t e h = record { stands = subst (λ ts. Contains ts t) (same_ties n e) h.stands; to = h.to }

  kept_tied : (n m : Node) (t : Tie) → is_dirty G n.at ≡ false → IsTied (fresh_ground S F G.areas) n m t → IsTied G n m t
  kept_tied n m t e h = record { stands = subst (λ ts. Contains ts t) (sym (same_ties n e)) h.stands; to = h.to }

pub kept_linked : KeptLinkedLaw
kept_linked S F G B mode starts reached sound covered c standing reach none =
    let over_fresh : IsReach (leads (fresh_ground S F G.areas) B mode) starts reached = record {
      rising = reach.rising;
      exact = λ n. ((λ h. (two_grounds S F G B mode starts covered c n).0 ((reach.exact n).0 h)), (λ w. (reach.exact n).1 ((two_grounds S F G B mode starts covered c n).1 w)));
    } in
    let linked = fresh_linked S F G.areas B mode starts reached sound standing over_fresh in
    let is_clean : (n : Node) → Contains reached n → is_dirty G n.at ≡ false = λ n h. clean G reached none n (among_from_contains reached n h) in
    record {
      both_ends = λ n m t h g tied.
          let back = linked.both_ends n m t h g (fresh_tied S F G covered n m t (is_clean n h) tied) in
          record { tie = back.tie; tied = kept_tied S F G covered m n back.tie (is_clean m g) back.tied; named = back.named };
      own_ports = linked.own_ports;
      one_pair = λ n m k l t u a b c d h g e.
          linked.one_pair n m k l t u a b c d (fresh_tied S F G covered n m t (is_clean n a) h) (fresh_tied S F G covered k l u (is_clean k c) g) e;
    }
