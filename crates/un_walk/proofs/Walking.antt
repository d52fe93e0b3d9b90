-- What holds of the nodes that a walk has found, of which some are done, and of the links that it has put off.
use Rattle.std.proofs.Common.{◌≡◌, ◌⊎◌, ℕ, suc, ◌<◌, ◌≤◌, Bool, true, false, cond, List, [], ◌∷◌, ◌++◌, length, slice_get, append-nil, Contains, Some, None, inl, inr, refl, sym, ap, subst, ◌∙◌, arith}
use Rattle.std.specs.List.{IsDistinct, list_any}
use Rattle.std.proofs.lemmas.Bool.{cases_lt}
use Rattle.std.proofs.lemmas.Option.{slice_get_within}
use Rattle.un_defs.specs.declared.port.Node.{Node}
use Rattle.un_defs.specs.declared.link.Tie.{Tie}
use Rattle.un_defs.specs.declared.walk.Mode.{Mode}
use Rattle.un_defs.specs.declared.walk.Barriers.{Barriers}
use Rattle.un_defs.specs.Orders.{same_node, node_cmp, rising}
use Rattle.un_defs.specs.Ground.{Ground, ties}
use Rattle.un_defs.specs.Reach.{Walk, IsReach, leads, goes_by, is_open}
use Rattle.un_defs.proofs.LinkCases.{some_same, both_true}
use Rattle.un_defs.proofs.Members.{among_left, among_right, among_cases, contains_from_among, among_from_contains, among_from_list_any, list_any_from_among}
use Rattle.un_defs.proofs.OrderLaws.{node_total}
use Rattle.un_defs.proofs.Rising.{Among, sorted-rising}
use Rattle.un_defs.proofs.Unique.{node_same}
use Rattle.un_defs.proofs.Walking.{walk_from_start, walk_on, is_reach}
use Rattle.un_walk.specs.declared.traversal.Away.{Away}
use Rattle.un_walk.specs.declared.found.Found.{Found}
use Rattle.un_walk.specs.Growth.{has_node, with_node, GrowsBy}
use Rattle.un_walk.specs.Found.{nodes}
use Rattle.un_walk.specs.Traced.{Traces, IsTraced, AreDoneBefore, Adds, chords}
use Rattle.un_walk.specs.Aways.{HasAway, IsAwayOf, AreSettled, Follows, FollowsAll}
use Rattle.un_walk.proofs.Following.{has_more, settled_more}
use Rattle.un_walk.proofs.LinkTests.{leads_open}
use Rattle.un_walk.proofs.Once.{node_in_order, node_from_order}
use Rattle.un_walk.proofs.Tracing.{at_kept, place_of, traces_none, traces_start, traces_done}
use Rattle.un_walk.proofs.Walked.{among_at, at_before}

-- a link that is put off leads from a found node, which is open
pub record IsPending (G : Ground) (B : Barriers) (mode : Mode) (ns : List Node) (first : ℕ) (a : Away) : Type 0 where
  pub low : first ≤ a.from
  pub one : Node
  pub at : slice_get ns a.from ≡ Some one
  pub is : IsAwayOf G B mode one a.from a

-- each found node is reached, and the starts are found; of the nodes before the next each link by which a walk goes is done, or put off
pub record IsWalking (G : Ground) (B : Barriers) (mode : Mode) (starts : List Node) (f : Found) (aways : List Away) (next : ℕ) : Type 0 where
  pub first : ℕ
  pub settled : List (ℕ × Tie)
  pub low : first ≤ next
  pub bounded : (q : ℕ) (t : Tie) → Contains settled (q, t) → q < next
  pub traces : Traces G B mode f first (AreSettled settled)
  pub pending : (a : Away) → Contains aways a → IsPending G B mode (nodes f) first a
  pub covers : (p : ℕ) (n m : Node) (t : Tie) → p < next → slice_get (nodes f) p ≡ Some n → is_open G B n ≡ true → Contains (ties G n) t → goes_by G B mode n m t ≡ true
      → Contains settled (p, t) ⊎ HasAway aways p t
  pub sound : (n : Node) → Among (nodes f) n → Walk (leads G B mode) starts n
  pub begin : (n : Node) → Among starts n → Among (nodes f) n

-- a list with the node is the list with some more at its end
pub with_is : (ns : List Node) (n : Node) → (more : List Node) × (with_node ns n ≡ ns ++ more) × ((m : Node) → Among more m → n ≡ m)
with_is ns n = go (has_node ns n)
  where
    go : (b : Bool) → (more : List Node) × (cond b ns (ns ++ n ∷ []) ≡ ns ++ more) × ((m : Node) → Among more m → n ≡ m)
    go true = ([], sym (append-nil ns), λ m h. absurd h)
    go false = (n ∷ [], refl, λ m h. elim h [ inl e ↦ e | inr none ↦ absurd none ])

found_there : (ns : List Node) (s : Node) → Among (with_node ns s) s
found_there ns s = go (has_node ns s) refl
  where
    go : (b : Bool) → has_node ns s ≡ b → Among (cond b ns (ns ++ s ∷ [])) s
    go true e = let r = among_from_list_any (same_node s) ns e in subst (Among ns) (sym (node_same s r.0 r.2)) r.1
    go false e = among_right ns (s ∷ []) s (inl refl)

module _ (G : Ground) (B : Barriers) (mode : Mode) where
  pub walking_none : (f : Found) (aways : List Away) (starts : List Node) → nodes f ≡ [] → chords f ≡ [] → aways ≡ [] → starts ≡ [] → IsWalking G B mode starts f aways 0
  walking_none f aways starts none no_chords no_aways no_starts = record {
    first = 0;
    settled = [];
    low = omega arith;
    bounded = λ q t c. absurd (among_from_contains [] (q, t) c);
    traces = traces_none G B mode f (AreSettled []) none no_chords (λ q t c. among_from_contains [] (q, t) c);
    pending = λ a c. absurd (among_from_contains [] a (subst (λ l. Contains l a) no_aways c));
    covers = λ p n m t l at opened stands goes. absurd (omega (arith, l));
    sound = λ n h. absurd (subst (λ l. Among l n) none h);
    begin = λ n h. absurd (subst (λ l. Among l n) no_starts h);
  }

  pending_kept : (f g : Found) (more : List Node) (first : ℕ) (a : Away) → nodes g ≡ nodes f ++ more → IsPending G B mode (nodes f) first a → IsPending G B mode (nodes g) first a
  pending_kept f g more first a is h = record {
    low = h.low;
    one = h.one;
    at = subst (λ l. slice_get l a.from ≡ Some h.one) (sym is) (at_kept (nodes f) more a.from h.one h.at);
    is = h.is;
  }

  module _ (starts : List Node) (f g : Found) where
    -- the next node is visited
    pub walking_visit : (old new : List Away) (next : ℕ) (n : Node) → GrowsBy (nodes f) (nodes g) (leads G B mode n) → slice_get (nodes f) next ≡ Some n
        → FollowsAll G B mode f g old new n next → IsWalking G B mode starts f old next → IsWalking G B mode starts g new (suc next)
    walking_visit old new next n grown at all w = subst (λ l. IsWalking G B mode starts g l (suc next)) (sym all.is) (record {
      first = w.first;
      settled = step.more ++ w.settled;
      low = omega (arith, w.low);
      bounded = λ q t c. omega (arith, step.after.bounded q t c);
      traces = step.after.traces;
      pending = λ a c. elim (among_cases old all.aways a (among_from_contains (old ++ all.aways) a c)) [
        | inl h ↦ pending_kept f g grown.more w.first a grown.is (w.pending a (contains_from_among old a h))
        | inr h ↦
            let is = all.of a (contains_from_among all.aways a h) in
            record {
              low = omega (arith, w.low, is.from);
              one = n;
              at = ap (slice_get (nodes g)) is.from ∙ here;
              is = record { from = refl; opened = is.opened; stands = is.stands; goes = is.goes };
            }
      ];
      covers = λ p x m t l at_x opened stands goes. elim (cases_lt p next) [
        | inl before ↦
            let at_f : slice_get (nodes f) p ≡ Some x = at_before (nodes f) grown.more p x (omega (arith, before, inside)) (subst (λ l. slice_get l p ≡ Some x) grown.is at_x) in
            elim (w.covers p x m t before at_f opened stands goes) [
              | inl done ↦ inl (contains_from_among (step.more ++ w.settled) (p, t) (among_right step.more w.settled (p, t) (among_from_contains w.settled (p, t) done)))
              | inr off ↦ inr (has_more old all.aways p t off)
            ]
        | inr later ↦
            let same : p ≡ next = omega (arith, later, l) in
            let x_is : x ≡ n = some_same x n (sym at_x ∙ ap (slice_get (nodes g)) same ∙ here) in
            elim (step.covers (subst (λ y. is_open G B y ≡ true) x_is opened) t m (subst (λ y. Contains (ties G y) t) x_is stands) (subst (λ y. goes_by G B mode y m t ≡ true) x_is goes)) [
              | inl done ↦ inl (subst (λ q. Contains (step.more ++ w.settled) (q, t)) (sym same) done)
              | inr off ↦ inr (record {
                away = off.away;
                stands = contains_from_among (old ++ all.aways) off.away (among_right old all.aways off.away (among_from_contains all.aways off.away off.stands));
                from = off.from ∙ sym same;
                tie = off.tie;
              })
            ]
      ];
      sound = λ m h. elim (among_cases (nodes f) grown.more m (subst (λ l. Among l m) grown.is h)) [
        | inl old ↦ w.sound m old
        | inr new ↦ walk_on (leads G B mode) starts n m (w.sound n (among_at (nodes f) next n at)) (grown.only m (contains_from_among grown.more m new))
      ];
      begin = λ m h. subst (λ l. Among l m) (sym grown.is) (among_left (nodes f) grown.more m (w.begin m h));
    })
      where
        step : Follows G B mode g all.aways n w.first next w.settled (ties G n)
        step = all.follows w.first w.settled (record { low = w.low; bounded = λ q t c. omega (arith, w.bounded q t c); traces = w.traces })

        inside : next < length (nodes f)
        inside = slice_get_within (nodes f) next n at

        here : slice_get (nodes g) next ≡ Some n
        here = subst (λ l. slice_get l next ≡ Some n) (sym grown.is) (at_kept (nodes f) grown.more next n at)

    -- a link that was put off is followed, where all found nodes were visited
    pub walking_away : (a : Away) (aways rest : List Away) (next : ℕ) → aways ≡ rest ++ a ∷ [] → next ≡ length (nodes f) → nodes g ≡ with_node (nodes f) a.to → IsDistinct same_node (nodes g) → Adds G f g a.to a.from (Some a.tie)
        → IsWalking G B mode starts f aways next → IsWalking G B mode starts g rest next
    walking_away a aways rest next last all added distinct adds w = record {
      first = w.first;
      settled = (a.from, a.tie.now) ∷ w.settled;
      low = w.low;
      bounded = λ q t c. elim (among_from_contains ((a.from, a.tie.now) ∷ w.settled) (q, t) c) [
        | inl e ↦ let same : a.from ≡ q = ap (λ (x : ℕ × Tie). x.0) e in omega (arith, same, inside, all)
        | inr old ↦ w.bounded q t (contains_from_among w.settled (q, t) old)
      ];
      traces = settled_more G B mode f g a.to w.first a.from next w.settled a.tie off.one added distinct off.low w.traces (λ q t c. omega (arith, w.bounded q t c, all)) off.at off.is.opened off.is.stands off.is.goes adds;
      pending = λ b c. pending_kept f g longer.0 w.first b is (w.pending b (among_all b (among_left rest (a ∷ []) b (among_from_contains rest b c))));
      covers = λ p n m t l at opened stands goes.
          let at_f : slice_get (nodes f) p ≡ Some n = at_before (nodes f) longer.0 p n (omega (arith, l, all)) (subst (λ l. slice_get l p ≡ Some n) is at) in
          elim (w.covers p n m t l at_f opened stands goes) [
            | inl done ↦ inl (contains_from_among ((a.from, a.tie.now) ∷ w.settled) (p, t) (inr (among_from_contains w.settled (p, t) done)))
            | inr h ↦ elim (among_cases rest (a ∷ []) h.away (among_from_contains (rest ++ a ∷ []) h.away (subst (λ l. Contains l h.away) last h.stands))) [
              | inl more ↦ inr (record { away = h.away; stands = contains_from_among rest h.away more; from = h.from; tie = h.tie })
              | inr one ↦ elim one [
                | inl e ↦
                    let from : a.from ≡ p = ap (λ (x : Away). x.from) e ∙ h.from in
                    let tie : a.tie.now ≡ t = ap (λ (x : Away). x.tie.now) e ∙ h.tie in
                    inl (contains_from_among ((a.from, a.tie.now) ∷ w.settled) (p, t) (inl (λ i. (from i, tie i))))
                | inr none ↦ absurd none
              ]
            ]
          ];
      sound = λ m h. elim (among_cases (nodes f) longer.0 m (subst (λ l. Among l m) is h)) [
        | inl old ↦ w.sound m old
        | inr new ↦ walk_on (leads G B mode) starts off.one m (w.sound off.one (among_at (nodes f) a.from off.one off.at)) (subst (λ x. leads G B mode off.one x ≡ true) (longer.2 m new) led_there)
      ];
      begin = λ m h. subst (λ l. Among l m) (sym is) (among_left (nodes f) longer.0 m (w.begin m h));
    }
      where
        among_all : (b : Away) → Among (rest ++ a ∷ []) b → Contains aways b
        among_all b h = subst (λ l. Contains l b) (sym last) (contains_from_among (rest ++ a ∷ []) b h)

        off : IsPending G B mode (nodes f) w.first a
        off = w.pending a (among_all a (among_right rest (a ∷ []) a (inl refl)))

        inside : a.from < length (nodes f)
        inside = slice_get_within (nodes f) a.from off.one off.at

        longer : (more : List Node) × (with_node (nodes f) a.to ≡ nodes f ++ more) × ((m : Node) → Among more m → a.to ≡ m)
        longer = with_is (nodes f) a.to

        is : nodes g ≡ nodes f ++ longer.0
        is = added ∙ longer.1

        led_there : leads G B mode off.one a.to ≡ true
        led_there =
            leads_open G B mode off.one off.is.opened a.to
            ∙ list_any_from_among (goes_by G B mode off.one a.to) (ties G off.one) a.tie.now (among_from_contains (ties G off.one) a.tie.now off.is.stands) off.is.goes

    -- a start is added, where all found nodes were visited and no link is put off
    pub walking_start : (more : List Node) (s : Node) (aways : List Away) (next : ℕ) → aways ≡ [] → next ≡ length (nodes f) → nodes g ≡ with_node (nodes f) s → IsDistinct same_node (nodes g)
        → Adds G f g s next None → ((n : Node) → Among starts n → Among more n) → ((n : Node) → Among more n → Among starts n ⊎ (n ≡ s)) → Among more s
        → IsWalking G B mode starts f aways next → IsWalking G B mode more g aways next
    walking_start more s aways next no_aways all added distinct adds kept cases there w = record {
      first = next;
      settled = w.settled;
      low = omega arith;
      bounded = w.bounded;
      traces = traces_start G B mode f g s added distinct next (AreSettled w.settled) all
          (traces_done G B mode f w.first next (AreSettled w.settled) (AreSettled w.settled) w.low w.traces (λ p one other t is at opened stands goes. is)) w.bounded adds;
      pending = λ a c. absurd (among_from_contains [] a (subst (λ l. Contains l a) no_aways c));
      covers = λ p n m t l at. w.covers p n m t l (at_before (nodes f) longer.0 p n (omega (arith, l, all)) (subst (λ l. slice_get l p ≡ Some n) is at));
      sound = λ n h. elim (among_cases (nodes f) longer.0 n (subst (λ l. Among l n) is h)) [
        | inl old ↦
            let walk = w.sound n old in
            record {
              first = walk.first;
              rest = walk.rest;
              begins = contains_from_among more walk.first (kept walk.first (among_from_contains starts walk.first walk.begins));
              follows = walk.follows;
              ends = walk.ends;
            }
        | inr new ↦ walk_from_start (leads G B mode) more n (subst (Among more) (longer.2 n new) there)
      ];
      begin = λ n h. elim (cases n h) [
        | inl old ↦ subst (λ l. Among l n) (sym is) (among_left (nodes f) longer.0 n (w.begin n old))
        | inr new ↦ subst (λ l. Among l n) (sym added) (subst (Among (with_node (nodes f) s)) (sym new) (found_there (nodes f) s))
      ];
    }
      where
        longer : (more : List Node) × (with_node (nodes f) s ≡ nodes f ++ more) × ((m : Node) → Among more m → s ≡ m)
        longer = with_is (nodes f) s

        is : nodes g ≡ nodes f ++ longer.0
        is = added ∙ longer.1

  -- ---- all is visited, and nothing is put off

  module _ (starts : List Node) (f : Found) (aways : List Away) (next : ℕ) (no_aways : aways ≡ []) (all : next ≡ length (nodes f)) (w : IsWalking G B mode starts f aways next) where
    done : (p : ℕ) (n m : Node) (t : Tie) → slice_get (nodes f) p ≡ Some n → is_open G B n ≡ true → Contains (ties G n) t → goes_by G B mode n m t ≡ true → Contains w.settled (p, t)
    done p n m t at opened stands goes = elim (w.covers p n m t (omega (arith, slice_get_within (nodes f) p n at, all)) at opened stands goes) [
      | inl is ↦ is
      | inr off ↦ absurd (among_from_contains [] off.away (subst (λ l. Contains l off.away) no_aways off.stands))
    ]

    pub walking_traced : IsTraced G B mode f
    walking_traced =
        traces_done G B mode f w.first (length (nodes f)) (AreSettled w.settled) (AreDoneBefore (length (nodes f))) (omega (arith, w.low, all)) w.traces
        (λ p one other t low at opened stands goes. done p one other t at opened stands goes)

    pub walking_reach : IsReach (leads G B mode) starts (rising node_cmp (nodes f))
    walking_reach =
        is_reach (leads G B mode) starts (rising node_cmp (nodes f)) (sorted-rising node_total (nodes f))
        (λ n h. w.sound n (node_from_order (nodes f) n h))
        (λ n h. node_in_order (nodes f) n (w.begin n h))
        (λ n m h e. node_in_order (nodes f) m (closed n m (node_from_order (nodes f) n h) e))
      where
        closed : (n m : Node) → Among (nodes f) n → leads G B mode n m ≡ true → Among (nodes f) m
        closed n m h e =
            let there = place_of (nodes f) n h in
            let parts = both_true (is_open G B n) (list_any (goes_by G B mode n m) (ties G n)) e in
            let link = among_from_list_any (goes_by G B mode n m) (ties G n) parts.1 in
            let stands : Contains (ties G n) link.0 = contains_from_among (ties G n) link.0 link.1 in
            let has : has_node (nodes f) m ≡ true = w.traces.closed there.0 n m link.0 (done there.0 n m link.0 there.1 parts.0 stands link.2) there.1 parts.0 stands link.2 in
            let found = among_from_list_any (same_node m) (nodes f) has in
            subst (Among (nodes f)) (sym (node_same m found.0 found.2)) found.1
