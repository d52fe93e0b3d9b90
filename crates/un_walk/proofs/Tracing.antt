-- How the origins of found nodes and the chords change with one more link that is followed, and with one more start.
use Rattle.std.proofs.Common.{◌≡◌, ◌⊎◌, ℕ, zero, suc, ◌+◌, ◌<◌, ◌≤◌, eqb, nat_le, Bool, true, false, cond, not, ◌&&◌, List, [], ◌∷◌, ◌++◌, length, get_or, slice_get, Contains, IsSome, Option, Some, None, refl, sym, ap, subst, ◌∙◌, inl, inr, true≢false, append-nil, length-append, arith}
use Rattle.std.specs.List.{IsDistinct}
use Rattle.std.specs.Option.{option_copied}
use denote.Ref.{Bor}
use Rattle.std.proofs.lemmas.Bool.{cases_lt}
use Rattle.std.proofs.lemmas.Bool.Decides.{nat_tests}
use Rattle.std.proofs.lemmas.Map.Keys.{apart_from_distinct}
use Rattle.std.proofs.lemmas.Option.{get_or_from_slice_get, slice_get_within}
use Rattle.un_defs.specs.declared.port.Node.{Node}
use Rattle.un_defs.specs.declared.link.Tie.{Tie}
use Rattle.un_defs.specs.declared.walk.Mode.{Mode}
use Rattle.un_defs.specs.declared.walk.Barriers.{Barriers}
use Rattle.un_defs.specs.Orders.{same_node}
use Rattle.un_defs.specs.Ground.{Ground, entry, ties}
use Rattle.un_defs.specs.Reach.{goes_by, is_open, mode_takes, is_shut}
use Rattle.un_defs.proofs.LinkCases.{both_true}
use Rattle.un_defs.proofs.Members.{among_left, among_right, among_cases, contains_from_among, among_from_contains, list_any_from_among, among_from_list_any}
use Rattle.un_defs.proofs.Rising.{Among}
use Rattle.un_defs.proofs.Unique.{node_same, node_itself}
use Rattle.un_walk.specs.declared.item.Item.{Item}
use Rattle.un_walk.specs.declared.found.Chord.{Chord}
use Rattle.un_walk.specs.declared.found.Found.{Found}
use Rattle.un_walk.specs.Growth.{has_node, with_node}
use Rattle.un_walk.specs.Seen.{nodes_of}
use Rattle.un_walk.specs.Found.{nodes, seens_of}
use Rattle.un_walk.specs.Traced.{chords, IsOrigin, IsChord, GoesBy, Traces, chord_if, AddsNode, AddsChord, AddsNothing, Adds}
use Rattle.un_walk.proofs.FoundOver.{nodes_more, count_nodes, no_spot}
use Rattle.un_walk.proofs.Walked.{among_at}

-- ---- lists with one element more

pub at_kept : {A : Type 0} (xs more : List A) (k : ℕ) (x : A) → slice_get xs k ≡ Some x → slice_get (xs ++ more) k ≡ Some x
at_kept [] more k x e = cc
at_kept (y ∷ xs) more zero x e = e
at_kept (y ∷ xs) more (suc k) x e = at_kept xs more k x e

at_end : {A : Type 0} (xs : List A) (x : A) → slice_get (xs ++ x ∷ []) (length xs) ≡ Some x
at_end [] x = refl
at_end (y ∷ xs) x = at_end xs x

-- an element of the longer list is one of the list, or the last
at_more : {A : Type 0} (xs : List A) (x : A) (k : ℕ) (y : A) → slice_get (xs ++ x ∷ []) k ≡ Some y → (slice_get xs k ≡ Some y) ⊎ ((k ≡ length xs) × (x ≡ y))
at_more [] x zero y e = inr (refl, one e)
  where
    one : {A : Type 0} {x y : A} → Some x ≡ Some y → x ≡ y
    one e = cc
at_more [] x (suc k) y e = absurd (none e)
  where
    none : {A : Type 0} {y : A} → None ≡ Some y → ⊥
    none e = cc
at_more (z ∷ xs) x zero y e = inl e
at_more (z ∷ xs) x (suc k) y e = elim (at_more xs x k y e) [ inl g ↦ inl g | inr g ↦ inr (ap suc g.0, g.1) ]

-- a node stands at one place of distinct nodes
pub one_place : (ns : List Node) → IsDistinct same_node ns → (i j : ℕ) (n : Node) → slice_get ns i ≡ Some n → slice_get ns j ≡ Some n → i ≡ j
one_place ns distinct i j n at_i at_j = elim (cases_lt i j) [
  | inl low ↦ absurd (apart i j low at_i at_j)
  | inr rest ↦ elim (cases_lt j i) [
    | inl low ↦ absurd (apart j i low at_j at_i)
    | inr more ↦ omega arith
  ]
]
  where
    apart : (i j : ℕ) → i < j → slice_get ns i ≡ Some n → slice_get ns j ≡ Some n → ⊥
    apart i j low at_i at_j =
        let here : get_or ns i n ≡ n = get_or_from_slice_get ns i n n at_i in
        let there : get_or ns j n ≡ n = get_or_from_slice_get ns j n n at_j in
        let differ = apart_from_distinct same_node ns i j n distinct low (slice_get_within ns j n at_j) in
        true≢false (sym (node_itself n) ∙ (λ k. same_node (sym here k) (sym there k)) ∙ differ)

pub has_at : (ns : List Node) (k : ℕ) (n : Node) → slice_get ns k ≡ Some n → has_node ns n ≡ true
has_at ns k n e = list_any_from_among (same_node n) ns n (among_at ns k n e) (node_itself n)

has_more : (ns more : List Node) (n : Node) → has_node ns n ≡ true → has_node (ns ++ more) n ≡ true
has_more ns more n e =
    let r = among_from_list_any (same_node n) ns e in
    list_any_from_among (same_node n) (ns ++ more) r.0 (among_left ns more r.0 r.1) r.2

pub place_of : (ns : List Node) (n : Node) → Among ns n → (k : ℕ) × (slice_get ns k ≡ Some n)
place_of [] n h = absurd h
place_of (m ∷ ns) n h = elim h [
  | inl e ↦ (0, ap Some e)
  | inr more ↦ let r = place_of ns n more in (suc r.0, r.1)
]

place_if_has : (ns : List Node) (n : Node) → has_node ns n ≡ true → (k : ℕ) × (slice_get ns k ≡ Some n)
place_if_has ns n e =
    let r = among_from_list_any (same_node n) ns e in
    place_of ns n (subst (Among ns) (sym (node_same n r.0 r.2)) r.1)

with_has : (ns : List Node) (n : Node) → has_node (with_node ns n) n ≡ true
with_has ns n = go (has_node ns n) refl
  where
    go : (b : Bool) → has_node ns n ≡ b → has_node (cond b ns (ns ++ n ∷ [])) n ≡ true
    go true e = e
    go false e = has_at (ns ++ n ∷ []) (length ns) n (at_end ns n)

-- a number for one place, and other places as they were
abbrev rooted : (ℕ → ℕ) → ℕ → ℕ → ℕ → ℕ
rooted root k r v = cond (eqb v k) r (root v)

rooted_here : (root : ℕ → ℕ) (k r v : ℕ) → v ≡ k → rooted root k r v ≡ r
rooted_here root k r v e = ap (λ b. cond b r (root v)) yes
  where
    yes : eqb v k ≡ true
    yes = grind (arith, nat_tests)

rooted_below : (root : ℕ → ℕ) (k r v : ℕ) → v < k → rooted root k r v ≡ root v
rooted_below root k r v l = ap (λ b. cond b r (root v)) no
  where
    no : eqb v k ≡ false
    no = grind (arith, nat_tests)

-- ---- options and chords

not_both : {A : Type 0} {x : A} → None ≡ Some x → ⊥
not_both e = cc

some_is : {A : Type 0} {x y : A} → Some x ≡ Some y → x ≡ y
some_is e = cc

-- what a chord of these places is
chord_is : (p q : ℕ) (tie : Bor Tie) (c : Chord) → Contains (chord_if p q (Some tie)) c → (p ≤ q) × (record { from = p; to = q; tie = tie } ≡ c)
chord_is p q tie c has = go (nat_le p q) refl (among_from_contains (chord_if p q (Some tie)) c has)
  where
    go : (b : Bool) → nat_le p q ≡ b → Among (cond b ((record { from = p; to = q; tie = tie }) ∷ []) []) c → (p ≤ q) × (record { from = p; to = q; tie = tie } ≡ c)
    go true e h = (grind (arith, nat_tests, e), elim h [ inl same ↦ same | inr none ↦ absurd none ])
    go false e h = absurd h

chord_there : (p q : ℕ) (tie : Bor Tie) → p ≤ q → Among {A = Chord} (chord_if p q (Some tie)) (record { from = p; to = q; tie = tie })
chord_there p q tie low = go (nat_le p q) refl
  where
    go : (b : Bool) → nat_le p q ≡ b → Among {A = Chord} (cond b ((record { from = p; to = q; tie = tie }) ∷ []) []) (record { from = p; to = q; tie = tie })
    go true e = inl refl
    go false e = absurd (grind (arith, nat_tests, e, low))

-- what was found before may have other points
pub adds_to : (G : Ground) (f e g : Found) (n : Node) (p : ℕ) (via : Option (Bor Tie)) → e.items.items ≡ f.items.items → chords e ≡ chords f → Adds G e g n p via → Adds G f g n p via
adds_to G f e g n p via items same adds = elim adds [
  | inl a ↦ inl (record { item = a.item; items = a.items ∙ ap (λ l. l ++ a.item ∷ []) items; node = a.node; from = a.from; link = a.link; chords = a.chords ∙ same })
  | inr rest ↦ elim rest [
    | inl a ↦ inr (inl (record {
      place = a.place;
      at = subst (λ l. slice_get (nodes_of (seens_of l)) a.place ≡ Some n) items a.at;
      items = a.items ∙ items;
      chords = a.chords ∙ ap (λ l. l ++ chord_if p a.place via) same;
    }))
    | inr a ↦ inr (inr (record {
      items = a.items ∙ items;
      chords = a.chords ∙ same;
      why = elim a.why [
        | inl from ↦ inl (record {
          place = from.place;
          tie = from.tie;
          origin = record {
            item = from.origin.item;
            at = subst (λ l. slice_get l p ≡ Some from.origin.item) items from.origin.at;
            from = from.origin.from;
            via = from.origin.via;
          };
          at = subst (λ l. slice_get (nodes_of (seens_of l)) from.place ≡ Some n) items from.at;
        })
        | inr none ↦ inr none
      ];
    }))
  ]
]

module _ (G : Ground) (B : Barriers) (mode : Mode) where
  -- a link by which a walk goes leads to its other end
  pub led : (n m : Node) (t : Tie) → goes_by G B mode n m t ≡ true → t.to ≡ m
  led n m t e = node_same t.to m (both_true (same_node t.to m) (mode_takes mode t) (both_true (same_node t.to m && mode_takes mode t) (not (is_shut G B n t)) e).0).0

  goes_kept : (ns more : List Node) (p q : ℕ) (t : Tie) → GoesBy G B mode ns p q t → GoesBy G B mode (ns ++ more) p q t
  goes_kept ns more p q t go = record {
    one = go.one;
    other = go.other;
    at_one = at_kept ns more p go.one go.at_one;
    at_other = at_kept ns more q go.other go.at_other;
    opened = go.opened;
    stands = go.stands;
    goes = go.goes;
  }

  -- ---- one node more

  module _ (f g : Found) (item : Item) (items : g.items.items ≡ f.items.items ++ item ∷ []) (same : chords g ≡ chords f) (distinct : IsDistinct same_node (nodes g)) where
    abbrev last : ℕ
    last = length (nodes f)

    nodes_are : nodes g ≡ nodes f ++ item.seen.node ∷ []
    nodes_are = nodes_more f g item items

    within : (q : ℕ) (i : Item) → slice_get f.items.items q ≡ Some i → q < last
    within q i e = omega (arith, slice_get_within f.items.items q i e, count_nodes f)

    cases_item : (q : ℕ) (i : Item) → slice_get g.items.items q ≡ Some i → (slice_get f.items.items q ≡ Some i) ⊎ ((q ≡ last) × (item ≡ i))
    cases_item q i e = elim (at_more f.items.items item q i (subst (λ l. slice_get l q ≡ Some i) items e)) [
      | inl h ↦ inl h
      | inr h ↦ inr (h.0 ∙ sym (count_nodes f), h.1)
    ]

    item_kept : (q : ℕ) (i : Item) → slice_get f.items.items q ≡ Some i → slice_get g.items.items q ≡ Some i
    item_kept q i e = subst (λ l. slice_get l q ≡ Some i) (sym items) (at_kept f.items.items (item ∷ []) q i e)

    node_kept : (q : ℕ) (n : Node) → slice_get (nodes f) q ≡ Some n → slice_get (nodes g) q ≡ Some n
    node_kept q n e = subst (λ l. slice_get l q ≡ Some n) (sym nodes_are) (at_kept (nodes f) (item.seen.node ∷ []) q n e)

    node_last : slice_get (nodes g) last ≡ Some item.seen.node
    node_last = subst (λ l. slice_get l last ≡ Some item.seen.node) (sym nodes_are) (at_end (nodes f) item.seen.node)

    node_cases : (q : ℕ) (n : Node) → slice_get (nodes g) q ≡ Some n → (slice_get (nodes f) q ≡ Some n) ⊎ ((q ≡ last) × (item.seen.node ≡ n))
    node_cases q n e = at_more (nodes f) item.seen.node q n (subst (λ l. slice_get l q ≡ Some n) nodes_are e)

    go_kept : (p q : ℕ) (t : Tie) → GoesBy G B mode (nodes f) p q t → GoesBy G B mode (nodes g) p q t
    go_kept p q t go = subst (λ l. GoesBy G B mode l p q t) (sym nodes_are) (goes_kept (nodes f) (item.seen.node ∷ []) p q t go)

    has_kept : (n : Node) → has_node (nodes f) n ≡ true → has_node (nodes g) n ≡ true
    has_kept n e = subst (λ l. has_node l n ≡ true) (sym nodes_are) (has_more (nodes f) (item.seen.node ∷ []) n e)

    -- the last node is not among those before
    not_before : has_node (nodes f) item.seen.node ≡ true → ⊥
    not_before e =
        let r = place_if_has (nodes f) item.seen.node e in
        let one = one_place (nodes g) distinct r.0 last item.seen.node (node_kept r.0 item.seen.node r.1) node_last in
        omega (arith, one, slice_get_within (nodes f) r.0 item.seen.node r.1)

    pub node_more : (k k' r : ℕ) (done done' : ℕ → Tie → Type 0) (h : Traces G B mode f k done)
        → (option_copied item.via ≡ None → r ≡ last)
        → ((t : Tie) → option_copied item.via ≡ Some t → (item.from < last) × (h.root item.from ≡ r) × GoesBy G B mode (nodes g) item.from last t)
        → ((p q : ℕ) (t : Tie) → done' p t → p ≤ q → (go : GoesBy G B mode (nodes g) p q t) → IsSome (entry G go.other) → done p t ⊎ IsOrigin g p q t)
        → ((p : ℕ) (t : Tie) → done p t → p < last)
        → ((p : ℕ) (one other : Node) (t : Tie) → done' p t → slice_get (nodes g) p ≡ Some one → goes_by G B mode one other t ≡ true → done p t ⊎ (has_node (nodes g) other ≡ true))
        → ((p : ℕ) → k' ≤ p → p < last → h.root p ≡ r)
        → Traces G B mode g k' done'
    node_more k k' r done done' h start link extra below reached fresh = record {
      root = rooted h.root last r;
      starts = λ q is. elim (cases_item q is.item is.at) [
        | inl old ↦ rooted_below h.root last r q (within q is.item old) ∙ h.starts q (record { item = is.item; at = old; via = is.via })
        | inr new ↦ rooted_here h.root last r q new.0 ∙ start (ap (λ (i : Item). option_copied i.via) new.1 ∙ is.via) ∙ sym new.0
      ];
      origins = λ p q t is. elim (cases_item q is.item is.at) [
        | inl old ↦
            let before = h.origins p q t (record { item = is.item; at = old; from = is.from; via = is.via }) in
            let low : q < last = within q is.item old in (
              before.0,
              rooted_below h.root last r p (omega (arith, before.0, low)) ∙ before.1 ∙ sym (rooted_below h.root last r q low),
              go_kept p q t before.2,
            )
        | inr new ↦
            let from : item.from ≡ p = ap (λ (i : Item). i.from) new.1 ∙ is.from in
            let here = link t (ap (λ (i : Item). option_copied i.via) new.1 ∙ is.via) in (
              omega (arith, here.0, from, new.0),
              rooted_below h.root last r p (omega (arith, here.0, from)) ∙ ap h.root (sym from) ∙ here.1 ∙ sym (rooted_here h.root last r q new.0),
              subst (λ x. GoesBy G B mode (nodes g) x q t) from (subst (λ x. GoesBy G B mode (nodes g) item.from x t) (sym new.0) here.2),
            )
      ];
      chords = λ c has.
          let before = h.chords c (subst (λ l. Contains l c) same has) in
          let one = slice_get_within (nodes f) c.from before.2.one before.2.at_one in
          let other = slice_get_within (nodes f) c.to before.2.other before.2.at_other in (
            before.0,
            rooted_below h.root last r c.from one ∙ before.1 ∙ sym (rooted_below h.root last r c.to other),
            go_kept c.from c.to c.tie.now before.2,
          );
      whole = λ p q t is low go some. elim (extra p q t is low go some) [
        | inr origin ↦ inl origin
        | inl old ↦
            let at_one : slice_get (nodes f) p ≡ Some go.one = elim (node_cases p go.one go.at_one) [
              | inl e ↦ e
              | inr e ↦ absurd (omega (arith, e.0, below p t old))
            ] in
            elim (node_cases q go.other go.at_other) [
              | inl at_other ↦
                  let go_old : GoesBy G B mode (nodes f) p q t = record {
                    one = go.one;
                    other = go.other;
                    at_one = at_one;
                    at_other = at_other;
                    opened = go.opened;
                    stands = go.stands;
                    goes = go.goes;
                  } in
                  elim (h.whole p q t old low go_old some) [
                    | inl is ↦ inl (record { item = is.item; at = item_kept q is.item is.at; from = is.from; via = is.via })
                    | inr is ↦ inr (record { chord = is.chord; stands = subst (λ l. Contains l is.chord) (sym same) is.stands; from = is.from; to = is.to; tie = is.tie })
                  ]
              | inr e ↦ absurd (not_before (subst (λ n. has_node (nodes f) n ≡ true) (sym e.1) (h.closed p go.one go.other t old at_one go.opened go.stands go.goes)))
            ]
      ];
      closed = λ p one other t is at opened stands goes. elim (reached p one other t is at goes) [
        | inr has ↦ has
        | inl old ↦
            let at_one : slice_get (nodes f) p ≡ Some one = elim (node_cases p one at) [
              | inl e ↦ e
              | inr e ↦ absurd (omega (arith, e.0, below p t old))
            ] in
            has_kept other (h.closed p one other t old at_one opened stands goes)
      ];
      fresh = λ p q low high inside within. is_r p low inside ∙ sym (is_r q high within);
    }
      where
        count : length (nodes g) ≡ last + 1
        count = ap length nodes_are ∙ length-append (nodes f) (item.seen.node ∷ [])

        is_r : (p : ℕ) → k' ≤ p → p < length (nodes g) → rooted h.root last r p ≡ r
        is_r p low inside = elim (cases_lt p last) [
          | inl old ↦ rooted_below h.root last r p old ∙ fresh p low old
          | inr rest ↦ rooted_here h.root last r p (omega (arith, rest, inside, count))
        ]

  -- ---- chords alone

  module _ (f g : Found) (items : g.items.items ≡ f.items.items) (new : List Chord) (more : chords g ≡ chords f ++ new) where
    nodes_stay : nodes g ≡ nodes f
    nodes_stay = ap (λ l. nodes_of (seens_of l)) items

    chord_kept : (c : Chord) → Contains (chords f) c → Contains (chords g) c
    chord_kept c has = subst (λ l. Contains l c) (sym more) (contains_from_among (chords f ++ new) c (among_left (chords f) new c (among_from_contains (chords f) c has)))

    pub chords_more : (k k' : ℕ) (done done' : ℕ → Tie → Type 0) (h : Traces G B mode f k done)
        → ((c : Chord) → Contains new c → (c.from ≤ c.to) × (h.root c.from ≡ h.root c.to) × GoesBy G B mode (nodes f) c.from c.to c.tie.now)
        → ((p q : ℕ) (t : Tie) → done' p t → p ≤ q → (go : GoesBy G B mode (nodes f) p q t) → IsSome (entry G go.other) → done p t ⊎ IsChord g p q t)
        → ((p : ℕ) (one other : Node) (t : Tie) → done' p t → slice_get (nodes f) p ≡ Some one → goes_by G B mode one other t ≡ true → done p t ⊎ (has_node (nodes f) other ≡ true))
        → k ≤ k'
        → Traces G B mode g k' done'
    chords_more k k' done done' h fine extra reached later = record {
      root = h.root;
      starts = λ q is. h.starts q (record { item = is.item; at = subst (λ l. slice_get l q ≡ Some is.item) items is.at; via = is.via });
      origins = λ p q t is.
          let before = h.origins p q t (record { item = is.item; at = subst (λ l. slice_get l q ≡ Some is.item) items is.at; from = is.from; via = is.via }) in
          (before.0, before.1, subst (λ ns. GoesBy G B mode ns p q t) (sym nodes_stay) before.2);
      chords = λ c has.
          let found : (c.from ≤ c.to) × (h.root c.from ≡ h.root c.to) × GoesBy G B mode (nodes f) c.from c.to c.tie.now = elim (among_cases (chords f) new c (among_from_contains (chords f ++ new) c (subst (λ l. Contains l c) more has))) [
            | inl old ↦ h.chords c (contains_from_among (chords f) c old)
            | inr fresh ↦ fine c (contains_from_among new c fresh)
          ] in
          (found.0, found.1, subst (λ ns. GoesBy G B mode ns c.from c.to c.tie.now) (sym nodes_stay) found.2);
      whole = λ p q t is low go some.
          let go_old : GoesBy G B mode (nodes f) p q t = record {
            one = go.one;
            other = go.other;
            at_one = subst (λ ns. slice_get ns p ≡ Some go.one) nodes_stay go.at_one;
            at_other = subst (λ ns. slice_get ns q ≡ Some go.other) nodes_stay go.at_other;
            opened = go.opened;
            stands = go.stands;
            goes = go.goes;
          } in
          elim (extra p q t is low go_old some) [
            | inr chord ↦ inr chord
            | inl old ↦ elim (h.whole p q t old low go_old some) [
              | inl is ↦ inl (record { item = is.item; at = subst (λ l. slice_get l q ≡ Some is.item) (sym items) is.at; from = is.from; via = is.via })
              | inr is ↦ inr (record { chord = is.chord; stands = chord_kept is.chord is.stands; from = is.from; to = is.to; tie = is.tie })
            ]
          ];
      closed = λ p one other t is at opened stands goes.
          let at_one : slice_get (nodes f) p ≡ Some one = subst (λ ns. slice_get ns p ≡ Some one) nodes_stay at in
          subst (λ ns. has_node ns other ≡ true) (sym nodes_stay) (elim (reached p one other t is at_one goes) [
            | inr has ↦ has
            | inl old ↦ h.closed p one other t old at_one opened stands goes
          ]);
      fresh = λ p q low high inside within.
          h.fresh p q (omega (arith, later, low)) (omega (arith, later, high)) (subst (λ ns. p < length ns) nodes_stay inside) (subst (λ ns. q < length ns) nodes_stay within);
    }

  -- ---- one more link, and one more start

  -- the links that are done may be fewer, and others that no walk goes by
  pub traces_done : (f : Found) (k k' : ℕ) (done done' : ℕ → Tie → Type 0) → k ≤ k' → Traces G B mode f k done
      → ((p : ℕ) (one other : Node) (t : Tie) → done' p t → slice_get (nodes f) p ≡ Some one → is_open G B one ≡ true → Contains (ties G one) t → goes_by G B mode one other t ≡ true → done p t)
      → Traces G B mode f k' done'
  traces_done f k k' done done' later h is_done = record {
    root = h.root;
    starts = h.starts;
    origins = h.origins;
    chords = h.chords;
    whole = λ p q t is low go some. h.whole p q t (is_done p go.one go.other t is go.at_one go.opened go.stands go.goes) low go some;
    closed = λ p one other t is at opened stands goes. h.closed p one other t (is_done p one other t is at opened stands goes) at opened stands goes;
    fresh = λ p q low high inside within. h.fresh p q (omega (arith, later, low)) (omega (arith, later, high)) inside within;
  }

  module _ (f g : Found) (n : Node) (added : nodes g ≡ with_node (nodes f) n) (distinct : IsDistinct same_node (nodes g)) where
    has_it : has_node (nodes g) n ≡ true
    has_it = subst (λ ns. has_node ns n ≡ true) (sym added) (with_has (nodes f) n)

    -- a link of the node at s is followed
    pub traces_link : (k s : ℕ) (done : ℕ → Tie → Type 0) (tie : Bor Tie) (one : Node) → k ≤ s → Traces G B mode f k done → ((p : ℕ) (t : Tie) → done p t → p < length (nodes f))
        → slice_get (nodes f) s ≡ Some one → is_open G B one ≡ true → Contains (ties G one) tie.now → goes_by G B mode one n tie.now ≡ true
        → Adds G f g n s (Some tie) → Traces G B mode g k (λ p t. done p t ⊎ ((p ≡ s) × (t ≡ tie.now)))
    traces_link k s done tie one up h bounded at opened stands goes adds = elim adds [
      | inl a ↦ by_node a
      | inr rest ↦ elim rest [ inl a ↦ by_chord a | inr a ↦ by_nothing a ]
    ]
      where
        inside : s < length (nodes f)
        inside = slice_get_within (nodes f) s one at

        -- the followed link leads to the node alone
        to_it : (m other : Node) (t : Tie) → t ≡ tie.now → goes_by G B mode m other t ≡ true → n ≡ other
        to_it m other t same e = sym (led one n tie.now goes) ∙ sym (ap (λ (x : Tie). x.to) same) ∙ led m other t e

        by_node : AddsNode f g n s (Some tie) → Traces G B mode g k (λ p t. done p t ⊎ ((p ≡ s) × (t ≡ tie.now)))
        by_node a =
            let via : option_copied a.item.via ≡ Some tie.now = ap option_copied a.link in
            let go_new : GoesBy G B mode (nodes g) s (length (nodes f)) tie.now = record {
              one = one;
              other = n;
              at_one = node_kept f g a.item a.items a.chords distinct s one at;
              at_other = node_last f g a.item a.items a.chords distinct ∙ ap (λ m. Some m) a.node;
              opened = opened;
              stands = stands;
              goes = goes;
            } in
            node_more f g a.item a.items a.chords distinct k k (h.root s) done (λ p t. done p t ⊎ ((p ≡ s) × (t ≡ tie.now))) h
            (λ none. absurd (not_both (sym none ∙ via)))
            (λ t e. (
              omega (arith, a.from, inside),
              ap h.root a.from,
              subst (λ x. GoesBy G B mode (nodes g) x (length (nodes f)) t) (sym a.from)
                  (subst (λ x. GoesBy G B mode (nodes g) s (length (nodes f)) x) (some_is (sym via ∙ e)) go_new),
            ))
            (λ p q t is low go some. elim is [
              | inl old ↦ inl old
              | inr new ↦
                  let same : n ≡ go.other = to_it go.one go.other t new.1 go.goes in
                  let here : slice_get (nodes g) q ≡ Some n = go.at_other ∙ ap (λ m. Some m) (sym same) in
                  let q_is : q ≡ length (nodes f) = one_place (nodes g) distinct q (length (nodes f)) n here go_new.at_other in
                  inr (record {
                    item = a.item;
                    at = subst (λ l. slice_get l q ≡ Some a.item) (sym a.items)
                        (subst (λ x. slice_get (f.items.items ++ a.item ∷ []) x ≡ Some a.item) (sym (q_is ∙ count_nodes f)) (at_end f.items.items a.item));
                    from = a.from ∙ sym new.0;
                    via = via ∙ ap (λ x. Some x) (sym new.1);
                  })
            ])
            bounded
            (λ p m other t is at_m e. elim is [
              | inl old ↦ inl old
              | inr new ↦ inr (subst (λ x. has_node (nodes g) x ≡ true) (to_it m other t new.1 e) has_it)
            ])
            (λ p low before. h.fresh p s low up before inside)

        by_chord : AddsChord f g n s (Some tie) → Traces G B mode g k (λ p t. done p t ⊎ ((p ≡ s) × (t ≡ tie.now)))
        by_chord a =
            let distinct_f : IsDistinct same_node (nodes f) = subst (IsDistinct same_node) (nodes_stay f g a.items (chord_if s a.place (Some tie)) a.chords) distinct in
            let within : a.place < length (nodes f) = slice_get_within (nodes f) a.place n a.at in
            chords_more f g a.items (chord_if s a.place (Some tie)) a.chords k k done (λ p t. done p t ⊎ ((p ≡ s) × (t ≡ tie.now))) h
            (λ c has.
            let is = chord_is s a.place tie c has in
            subst (λ (x : Chord). (x.from ≤ x.to) × (h.root x.from ≡ h.root x.to) × GoesBy G B mode (nodes f) x.from x.to x.tie.now) is.1 (
              is.0,
              h.fresh s a.place up (omega (arith, up, is.0)) inside within,
              record {
                one = one;
                other = n;
                at_one = at;
                at_other = a.at;
                opened = opened;
                stands = stands;
                goes = goes;
              },
            ))
            (λ p q t is low go some. elim is [
              | inl old ↦ inl old
              | inr new ↦
                  let same : n ≡ go.other = to_it go.one go.other t new.1 go.goes in
                  let q_is : q ≡ a.place = one_place (nodes f) distinct_f q a.place n (go.at_other ∙ ap (λ m. Some m) (sym same)) a.at in
                  let low_s : s ≤ a.place = omega (arith, low, new.0, q_is) in
                  inr (record {
                    chord = record { from = s; to = a.place; tie = tie };
                    stands = subst (λ l. Contains l (record { from = s; to = a.place; tie = tie })) (sym a.chords)
                        (contains_from_among (chords f ++ chord_if s a.place (Some tie)) (record { from = s; to = a.place; tie = tie })
                        (among_right (chords f) (chord_if s a.place (Some tie)) (record { from = s; to = a.place; tie = tie }) (chord_there s a.place tie low_s)));
                    from = sym new.0;
                    to = sym q_is;
                    tie = sym new.1;
                  })
            ])
            (λ p m other t is at_m e. elim is [
              | inl old ↦ inl old
              | inr new ↦ inr (subst (λ x. has_node (nodes f) x ≡ true) (to_it m other t new.1 e) (has_at (nodes f) a.place n a.at))
            ])
            (omega arith)

        by_nothing : AddsNothing G f g n s → Traces G B mode g k (λ p t. done p t ⊎ ((p ≡ s) × (t ≡ tie.now)))
        by_nothing a =
            let more : chords g ≡ chords f ++ [] = a.chords ∙ sym (append-nil (chords f)) in
            let stay : nodes g ≡ nodes f = nodes_stay f g a.items [] more in
            let distinct_f : IsDistinct same_node (nodes f) = subst (IsDistinct same_node) stay distinct in
            chords_more f g a.items [] more k k done (λ p t. done p t ⊎ ((p ≡ s) × (t ≡ tie.now))) h
            (λ c has. absurd (among_from_contains [] c has))
            (λ p q t is low go some. elim is [
              | inl old ↦ inl old
              | inr new ↦
                  let same : n ≡ go.other = to_it go.one go.other t new.1 go.goes in
                  elim a.why [
                    | inl from ↦
                        let before : from.place < s = (h.origins from.place s from.tie from.origin).0 in
                        let q_is : q ≡ from.place = one_place (nodes f) distinct_f q from.place n (go.at_other ∙ ap (λ m. Some m) (sym same)) from.at in
                        absurd (omega (arith, before, q_is, low, new.0))
                    | inr none ↦ absurd (no_spot (subst IsSome (ap (entry G) (sym same) ∙ none) some))
                  ]
            ])
            (λ p m other t is at_m e. elim is [
              | inl old ↦ inl old
              | inr new ↦ inr (subst (λ x. has_node (nodes f) x ≡ true) (to_it m other t new.1 e) (subst (λ ns. has_node ns n ≡ true) stay has_it))
            ])
            (omega arith)

    -- a start is added, where all that was found is done
    pub traces_start : (k : ℕ) (done : ℕ → Tie → Type 0) → k ≡ length (nodes f) → Traces G B mode f k done → ((p : ℕ) (t : Tie) → done p t → p < k)
        → Adds G f g n k None → Traces G B mode g k done
    traces_start k done all h bounded adds = elim adds [
      | inl a ↦ by_node a
      | inr rest ↦ elim rest [ inl a ↦ stays a.items (a.chords ∙ append-nil (chords f)) | inr a ↦ stays a.items a.chords ]
    ]
      where
        by_node : AddsNode f g n k None → Traces G B mode g k done
        by_node a =
            let via : option_copied a.item.via ≡ None = ap option_copied a.link in
            node_more f g a.item a.items a.chords distinct k k (length (nodes f)) done done h (λ _. refl)
            (λ t e. absurd (not_both (sym via ∙ e)))
            (λ p q t is low go some. inl is)
            (λ p t is. omega (arith, bounded p t is, all))
            (λ p one other t is at e. inl is)
            (λ p low before. absurd (omega (arith, low, before, all)))

        stays : g.items.items ≡ f.items.items → chords g ≡ chords f → Traces G B mode g k done
        stays items same =
            chords_more f g items [] (same ∙ sym (append-nil (chords f))) k k done done h (λ c has. absurd (among_from_contains [] c has)) (λ p q t is low go some. inl is)
            (λ p one other t is at e. inl is) (omega arith)

  -- nothing is found yet
  pub traces_none : (f : Found) (done : ℕ → Tie → Type 0) → nodes f ≡ [] → chords f ≡ [] → ((p : ℕ) (t : Tie) → done p t → ⊥) → Traces G B mode f 0 done
  traces_none f done none no_chords nothing = record {
    root = λ v. v;
    starts = λ q is. refl;
    origins = λ p q t is. absurd (omega (arith, slice_get_within f.items.items q is.item is.at, count_nodes f, ap length none));
    chords = λ c has. absurd (among_from_contains [] c (subst (λ l. Contains l c) no_chords has));
    whole = λ p q t is more go some. absurd (nothing p t is);
    closed = λ p one other t is at opened stands goes. absurd (nothing p t is);
    fresh = λ p q low high inside within. absurd (omega (arith, inside, ap length none));
  }
