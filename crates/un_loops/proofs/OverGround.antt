-- The links between the places of found nodes are those by which walks go over the ground, and have its loops.
use Rattle.std.proofs.Common.{◌≡◌, ◌≢◌, ℕ, suc, ◌<◌, ◌==◌, ◌↔◌, inl, inr, Bool, true, false, not, ◌&&◌, ◌||◌, List, [], ◌∷◌, get_or, Some, refl, sym, ap, subst, ◌∙◌, eqb-true, eq-eqb, true≢false, arith}
use Rattle.std.specs.Prelude.{slice_get, Contains}
use Rattle.std.specs.List.{list_any, IsDistinct}
use Rattle.std.specs.Option.{option_map_or}
use Rattle.std.proofs.lemmas.Bool.{cases_lt}
use Rattle.std.proofs.lemmas.Map.Keys.{apart_from_distinct}
use Rattle.std.proofs.lemmas.Option.{get_or_from_slice_get, slice_get_within}
use Rattle.un_defs.specs.declared.port.Node.{Node}
use Rattle.un_defs.specs.declared.link.LinkName.{LinkName}
use Rattle.un_defs.specs.declared.link.LinkName.TheVariants.{Seg, Path, Coin, Assoc}
use Rattle.un_defs.specs.declared.link.Tie.{Tie}
use Rattle.un_defs.specs.declared.walk.Mode.TheVariants.{Any}
use Rattle.un_defs.specs.declared.walk.Barriers.{Barriers}
use Rattle.un_defs.specs.Orders.{node_cmp, same_node, rising}
use Rattle.un_defs.specs.Ground.{Ground, ties, is_dirty}
use Rattle.un_defs.specs.Linked.{IsTied, AreLinked}
use Rattle.un_defs.specs.Reach.{Follow, last_node, IsReach, leads, goes_by, is_open, is_barrier, is_path, is_shut, controls}
use Rattle.un_defs.proofs.LinkCases.{some_same, both_true, true_both}
use Rattle.un_defs.proofs.Members.{contains_from_among, among_from_contains, list_any_from_among, among_from_list_any}
use Rattle.un_defs.proofs.OrderLaws.{node_ties}
use Rattle.un_defs.proofs.Rising.{Among, among-rising, among_from-rising}
use Rattle.un_defs.proofs.Unique.{node_same, node_itself}
use Rattle.un_defs.proofs.Walking.{walk_on}
use Rattle.un_walk.proofs.Walked.{among_at}
use Rattle.un_ask.specs.declared.results.Segment.{Segment}
use Rattle.un_loops.specs.Loops.{is_named, goes_beside, leads_beside, IsLoop}
use Rattle.un_loops.specs.Named.{IsNamedWalk, IsOnLoop, AreMutual, HaveOnePair}
use Rattle.un_loops.specs.Network.{is_passable, IsJoined, AreWellLinked}
use Rattle.un_loops.proofs.Marking.{name_of}

-- ---- tests of names

named_is : (s : Segment) (x : LinkName) → is_named s x ≡ true → x ≡ name_of s
named_is s (Seg line index) e =
    let parts = both_true (line == s.line) (index == s.index) e in
    let lines : line ≡ s.line = eqb-true line s.line parts.0 in
    let indices : index ≡ s.index = eqb-true index s.index parts.1 in
    λ i. Seg (lines i) (indices i)
named_is s (Path a b c) e = absurd (true≢false (sym e))
named_is s (Coin a b c d) e = absurd (true≢false (sym e))
named_is s (Assoc a) e = absurd (true≢false (sym e))

is_named_itself : (s : Segment) → is_named s (name_of s) ≡ true
is_named_itself s = true_both _ _ (eq-eqb s.line s.line refl) (eq-eqb s.index s.index refl)

not_named : (s : Segment) (x : LinkName) → x ≢ name_of s → is_named s x ≡ false
not_named s x other = go (is_named s x) refl
  where
    go : (b : Bool) → is_named s x ≡ b → b ≡ false
    go true e = absurd (other (named_is s x e))
    go false e = refl

not_true : (b : Bool) → not b ≡ true → b ≡ false
not_true true e = absurd (true≢false (sym e))
not_true false e = refl

-- ---- shut paths

or_turned : (a b : Bool) → (a || b) ≡ (b || a)
or_turned true true = refl
or_turned true false = refl
or_turned false true = refl
or_turned false false = refl

-- a path is shut from both its ends, or from none
shut_turned : (G : Ground) (B : Barriers) (n m : Node) (t u : Tie) → t.to ≡ m → u.to ≡ n → u.name ≡ t.name → is_shut G B m u ≡ is_shut G B n t
shut_turned G B n m t u to back named =
    λ i. is_path (named i) && option_map_or (λ k. (or_turned (controls G k m) (controls G k u.to) ∙ ap (λ x. controls G k x || controls G k m) back ∙ ap (λ x. controls G k n || controls G k x) (sym to)) i) B.tier false

-- ---- places

place_from : (ns : List Node) (n : Node) → Among ns n → (i : ℕ) × (slice_get ns i ≡ Some n)
place_from [] n h = absurd h
place_from (m ∷ ns) n h = elim h [
  | inl e ↦ (0, ap Some e)
  | inr more ↦ let rest = place_from ns n more in (suc rest.0, rest.1)
]

-- of distinct nodes each has one place
one_place : (ns : List Node) → IsDistinct same_node ns → (n : Node) (i j : ℕ) → slice_get ns i ≡ Some n → slice_get ns j ≡ Some n → i ≡ j
one_place ns distinct n i j at_i at_j = elim (cases_lt i j) [
  | inl low ↦ absurd (strictly i j low at_i at_j)
  | inr rest ↦ elim (cases_lt j i) [
    | inl low ↦ absurd (strictly j i low at_j at_i)
    | inr last ↦ omega arith
  ]
]
  where
    strictly : (i j : ℕ) → i < j → slice_get ns i ≡ Some n → slice_get ns j ≡ Some n → ⊥
    strictly i j low one two =
        let here : get_or ns i n ≡ n = get_or_from_slice_get ns i n n one in
        let there : get_or ns j n ≡ n = get_or_from_slice_get ns j n n two in
        let differ = apart_from_distinct same_node ns i j n distinct low (slice_get_within ns j n two) in
        true≢false (sym (node_itself n) ∙ (λ k. same_node (sym here k) (sym there k)) ∙ differ)

-- a list of nodes has the same members as in rising order
pub among_rising : (found : List Node) (n : Node) → Among found n → Among (rising node_cmp found) n
among_rising found = among-rising node_cmp found (λ x y _ _ e. node_ties x y e)

-- the node at a place is a barrier where no walk passes the place
pub passable_at : (G : Ground) (B : Barriers) (ns : List Node) (i : ℕ) (n : Node) → slice_get ns i ≡ Some n → is_passable G B ns i ≡ not (is_barrier G B n)
passable_at G B ns i n at = ap (λ o. option_map_or (λ m. not (is_barrier G B m)) o false) at

module _ (G : Ground) (B : Barriers) (starts found : List Node) (reach : IsReach (leads G B Any) starts (rising node_cmp found))
    (clean : (n : Node) → Contains (rising node_cmp found) n → is_dirty G n.at ≡ false) (linked : AreLinked G (rising node_cmp found))
    (distinct : IsDistinct same_node found) where
  abbrev joined : LinkName → ℕ → ℕ → Type 0
  joined = IsJoined G B found

  -- the nodes found, rising
  abbrev reached : List Node
  reached = rising node_cmp found

  reached_at : (i : ℕ) (n : Node) → slice_get found i ≡ Some n → Contains reached n
  reached_at i n at = contains_from_among reached n (among_rising found n (among_at found i n at))

  has_place : (n : Node) → Contains reached n → (i : ℕ) × (slice_get found i ≡ Some n)
  has_place n h = place_from found n (among_from-rising node_cmp found n (among_from_contains reached n h))

  not_barrier : (n : Node) → is_open G B n ≡ true → not (is_barrier G B n) ≡ true
  not_barrier n e = (both_true (not (is_barrier G B n)) (not (B.consistent && is_dirty G n.at)) e).0

  open_at : (i : ℕ) (n : Node) → slice_get found i ≡ Some n → is_passable G B found i ≡ true → is_open G B n ≡ true
  open_at i n at passable =
      true_both (not (is_barrier G B n)) (not (B.consistent && is_dirty G n.at)) (sym (passable_at G B found i n at) ∙ passable)
      (ap not (and_false B.consistent (clean n (reached_at i n at))))
    where
      and_false : (a : Bool) {b : Bool} → b ≡ false → (a && b) ≡ false
      and_false true e = e
      and_false false e = refl

  -- ---- the links between places

  record IsJoint (x : LinkName) (i j : ℕ) : Type 0 where
    one : Node
    other : Node
    at_one : slice_get found i ≡ Some one
    at_other : slice_get found j ≡ Some other
    open_one : is_open G B one ≡ true
    open_other : is_open G B other ≡ true
    tie : Tie
    tied : IsTied G one other tie
    named : tie.name ≡ x
    free : is_shut G B one tie ≡ false

  goes_on : (n m : Node) (t : Tie) → t.to ≡ m → is_shut G B n t ≡ false → goes_by G B Any n m t ≡ true
  goes_on n m t to free =
      true_both (same_node t.to m && true) (not (is_shut G B n t)) (true_both (same_node t.to m) true (subst (λ k. same_node t.to k ≡ true) to (node_itself t.to)) refl) (ap not free)

  from_joint : (x : LinkName) (i j : ℕ) → IsJoint x i j → joined x i j
  from_joint x i j h = record {
    tie = h.tie;
    named = h.named;
    goes = record {
      one = h.one;
      other = h.other;
      at_one = h.at_one;
      at_other = h.at_other;
      opened = h.open_one;
      stands = h.tied.stands;
      goes = goes_on h.one h.other h.tie h.tied.to h.free;
    };
    passable = passable_at G B found j h.other h.at_other ∙ not_barrier h.other h.open_other;
  }

  to_joint : (x : LinkName) (i j : ℕ) → joined x i j → IsJoint x i j
  to_joint x i j l =
      let g = l.goes in
      let goes = both_true (same_node l.tie.to g.other && true) (not (is_shut G B g.one l.tie)) g.goes in
      record {
        one = g.one;
        other = g.other;
        at_one = g.at_one;
        at_other = g.at_other;
        open_one = g.opened;
        open_other = open_at j g.other g.at_other l.passable;
        tie = l.tie;
        tied = record { stands = g.stands; to = node_same l.tie.to g.other (both_true (same_node l.tie.to g.other) true goes.0).0 };
        named = l.named;
        free = not_true (is_shut G B g.one l.tie) goes.1;
      }

  mutual_joints : AreMutual joined
  mutual_joints = λ x i j l.
      let h = to_joint x i j l in
      let back = linked.both_ends h.one h.other h.tie (reached_at i h.one h.at_one) (reached_at j h.other h.at_other) h.tied in
      from_joint x j i (record {
        one = h.other;
        other = h.one;
        at_one = h.at_other;
        at_other = h.at_one;
        open_one = h.open_other;
        open_other = h.open_one;
        tie = back.tie;
        tied = back.tied;
        named = back.named ∙ h.named;
        free = shut_turned G B h.one h.other h.tie back.tie h.tied.to back.tied.to back.named ∙ h.free;
      })

  one_joint : HaveOnePair joined
  one_joint = λ x i j k l p q.
      let g = to_joint x i j p in
      let h = to_joint x k l q in
      let pair = linked.one_pair g.one g.other h.one h.other g.tie h.tie
      (reached_at i g.one g.at_one) (reached_at j g.other g.at_other) (reached_at k h.one h.at_one) (reached_at l h.other h.at_other)
      g.tied h.tied (g.named ∙ sym h.named) in
      let same : (a b : ℕ) (n m : Node) → slice_get found a ≡ Some n → slice_get found b ≡ Some m → n ≡ m → a ≡ b = λ a b n m one two e. one_place found distinct m a b (one ∙ ap Some e) two in
      elim pair [
        | inl e ↦ inl (same i k g.one h.one g.at_one h.at_one e.0, same j l g.other h.other g.at_other h.at_other e.1)
        | inr e ↦ inr (same i l g.one h.other g.at_one h.at_other e.0, same j k g.other h.one g.at_other h.at_one e.1)
      ]

  pub well_linked : AreWellLinked G B found
  well_linked = record { mutual_links = mutual_joints; one_pair = one_joint }

  -- ---- walks

  -- where a link of an open node leads, there is a place too
  place_of_end : (n m : Node) (t : Tie) → Contains reached n → IsTied G n m t → is_open G B n ≡ true → is_shut G B n t ≡ false → (j : ℕ) × (slice_get found j ≡ Some m)
  place_of_end n m t h tied open_n free =
      let goes : goes_by G B Any n m t ≡ true = goes_on n m t tied.to free in
      let step : leads G B Any n m ≡ true = true_both (is_open G B n) (list_any (goes_by G B Any n m) (ties G n)) open_n (list_any_from_among (goes_by G B Any n m) (ties G n) t (among_from_contains (ties G n) t tied.stands) goes) in
      has_place m ((reach.exact m).1 (walk_on (leads G B Any) starts n m ((reach.exact n).0 h) step))

  -- a step beside the segment is one by a link of another name
  step_to : (s : Segment) (n m : Node) (i : ℕ) → slice_get found i ≡ Some n → leads_beside G B s n m ≡ true
      → (x : LinkName) × (j : ℕ) × (slice_get found j ≡ Some m) × (x ≢ name_of s) × joined x i j
  step_to s n m i at e =
      let outer = both_true (is_open G B n && is_open G B m) (list_any (goes_beside G B s n m) (ties G n)) e in
      let opened = both_true (is_open G B n) (is_open G B m) outer.0 in
      let found_tie = among_from_list_any (goes_beside G B s n m) (ties G n) outer.1 in
      let t = found_tie.0 in
      let beside = both_true (goes_by G B Any n m t) (not (is_named s t.name)) found_tie.2 in
      let goes = both_true (same_node t.to m && true) (not (is_shut G B n t)) beside.0 in
      let to : t.to ≡ m = node_same t.to m (both_true (same_node t.to m) true goes.0).0 in
      let free : is_shut G B n t ≡ false = not_true (is_shut G B n t) goes.1 in
      let tied : IsTied G n m t = record { stands = contains_from_among (ties G n) t found_tie.1; to = to } in
      let end = place_of_end n m t (reached_at i n at) tied opened.0 free in (
        t.name,
        end.0,
        end.1,
        λ same. true≢false (sym (is_named_itself s) ∙ ap (is_named s) (sym same) ∙ not_true (is_named s t.name) beside.1),
        from_joint t.name i end.0 (record {
          one = n;
          other = m;
          at_one = at;
          at_other = end.1;
          open_one = opened.0;
          open_other = opened.1;
          tie = t;
          tied = tied;
          named = refl;
          free = free;
        }),
      )

  walk_to : (s : Segment) (n : Node) (ms : List Node) (i : ℕ) → slice_get found i ≡ Some n → Follow (leads_beside G B s) n ms
      → (j : ℕ) × (slice_get found j ≡ Some (last_node n ms)) × ((steps : List (LinkName × ℕ)) × IsNamedWalk joined (name_of s) steps i j)
  walk_to s n [] i place f = (i, place, ([], refl))
  walk_to s n (m ∷ ms) i place f =
      let (x, j, next, other, link) = step_to s n m i place f.0 in
      let (k, last, (steps, walk)) = walk_to s m ms j next f.1 in
      (k, last, ((x, j) ∷ steps, (other, link, walk)))

  walk_from : (s : Segment) (steps : List (LinkName × ℕ)) (i j : ℕ) (n q : Node) → slice_get found i ≡ Some n → slice_get found j ≡ Some q → IsNamedWalk joined (name_of s) steps i j
      → (ms : List Node) × Follow (leads_beside G B s) n ms × (last_node n ms ≡ q)
  walk_from s [] i j n q at_i at_j same =
      ([], tt, some_same n q (sym at_i ∙ ap (slice_get found) same ∙ at_j))
  walk_from s (step ∷ steps) i j n q at_i at_j (other, link, walk) =
      let h = to_joint step.0 i step.1 link in
      let one : h.one ≡ n = some_same h.one n (sym h.at_one ∙ at_i) in
      let m = h.other in
      let t = h.tie in
      let goes : goes_by G B Any h.one m t ≡ true = goes_on h.one m t h.tied.to h.free in
      let beside : goes_beside G B s h.one m t ≡ true = true_both (goes_by G B Any h.one m t) (not (is_named s t.name)) goes (ap not (not_named s t.name (λ same. other (sym h.named ∙ same)))) in
      let leads_on : leads_beside G B s h.one m ≡ true =
      true_both (is_open G B h.one && is_open G B m) (list_any (goes_beside G B s h.one m) (ties G h.one))
      (true_both (is_open G B h.one) (is_open G B m) h.open_one h.open_other)
      (list_any_from_among (goes_beside G B s h.one m) (ties G h.one) t (among_from_contains (ties G h.one) t h.tied.stands) beside) in
      let rest = walk_from s steps step.1 j m q h.at_other at_j walk in
      (m ∷ rest.0, (subst (λ k. leads_beside G B s k m ≡ true) one leads_on, rest.1), rest.2)

  -- the names on loops between the places are those of the loop segments
  pub loop_is : (s : Segment) → IsOnLoop joined (name_of s) ↔ IsLoop G B reached s
  loop_is s = (
    λ (i, j, link, (steps, walk)).
        let h = to_joint (name_of s) i j link in
        let way = walk_from s steps i j h.one h.other h.at_one h.at_other walk in
        record {
          first = h.one;
          tie = h.tie;
          stands = h.tied.stands;
          named = ap (is_named s) h.named ∙ is_named_itself s;
          at_first = record { among = reached_at i h.one h.at_one; opened = h.open_one };
          at_second = record { among = subst (Contains reached) (sym h.tied.to) (reached_at j h.other h.at_other); opened = ap (is_open G B) h.tied.to ∙ h.open_other };
          walk = record {
            first = h.one;
            rest = way.0;
            begins = contains_from_among (h.one ∷ []) h.one (inl refl);
            follows = way.1;
            ends = way.2 ∙ sym h.tied.to;
          };
        },
    λ loop.
        let n = loop.first in
        let t = loop.tie in
        let named : t.name ≡ name_of s = named_is s t.name loop.named in
        let free : is_shut G B n t ≡ false = ap (λ x. is_path x && option_map_or (λ k. controls G k n || controls G k t.to) B.tier false) named in
        let tied : IsTied G n t.to t = record { stands = loop.stands; to = refl } in
        let (i, place) = has_place n loop.at_first.among in
        let (j, end) = place_of_end n t.to t loop.at_first.among tied loop.at_first.opened free in
        let link : joined (name_of s) i j = from_joint (name_of s) i j (record {
          one = n;
          other = t.to;
          at_one = place;
          at_other = end;
          open_one = loop.at_first.opened;
          open_other = loop.at_second.opened;
          tie = t;
          tied = tied;
          named = named;
          free = free;
        }) in
        let begins : loop.walk.first ≡ n = elim (among_from_contains (n ∷ []) loop.walk.first loop.walk.begins) [ inl e ↦ sym e | inr e ↦ absurd e ] in
        let follows : Follow (leads_beside G B s) n loop.walk.rest = subst (λ k. Follow (leads_beside G B s) k loop.walk.rest) begins loop.walk.follows in
        let ends : last_node n loop.walk.rest ≡ t.to = ap (λ k. last_node k loop.walk.rest) (sym begins) ∙ loop.walk.ends in
        let (k, last, way) = walk_to s n loop.walk.rest i place follows in
        let same : k ≡ j = one_place found distinct t.to k j (last ∙ ap Some ends) end in
        (i, j, link, subst (λ m. (steps : List (LinkName × ℕ)) × IsNamedWalk joined (name_of s) steps i m) same way),
  )
