-- The needed ports of an isolation by a second walk, from the controllers back to the border.
use Rattle.std.proofs.Common.{◌≡◌, Bool, true, false, not, ◌&&◌, List, [], ◌∷◌, filter, ◌⊎◌, inl, inr, refl, sym, ap, subst, ◌∙◌, true≢false}
use Rattle.un_defs.specs.declared.port.Port.{Port}
use Rattle.un_defs.specs.declared.port.Node.{Node}
use Rattle.un_defs.specs.Orders.{same_port}
use Rattle.un_defs.specs.Reach.{Follow, last_node, Walk, IsReach}
use Rattle.un_defs.specs.Linked.{HaveOwnPorts}
use Rattle.un_defs.proofs.Rising.{Among}
use Rattle.un_defs.proofs.Members.{among_from_contains, contains_from_among, among-map, among_from-map, among-filter, among_from-filter}
use Rattle.un_defs.proofs.LinkCases.{both_true, true_both}
use Rattle.un_defs.proofs.Unique.{port_same, port_itself}
use Rattle.un_defs.proofs.Walking.{walk_from_start, walk_on, reached_have}
use Rattle.un_walk.proofs.Spreading.{has_from, from_has}
use Rattle.un_isolate.specs.Isolation.{Isolation, is_controlled, goes, IsBorder, IsBorderPort, IsIsolable, ports_on, IsNeeded}
use Rattle.un_isolate.specs.IsolationList.{has_node, steps_among, reached_among}
use Rattle.un_isolate.proofs.Separation.{Clear, from_clear, needed_here, border_here, border_walk, by_test, false_not}
use Rattle.un_isolate.proofs.Listing.{in_step, reach_among}

-- a walk goes from the node to a controller, and neither it nor the nodes after it have a port of the border
pub record IsBehind (I : Isolation) (n : Node) : Type 0 where
  pub rest : List Node
  pub follows : Follow (goes I) n rest
  pub controlled : is_controlled I (last_node n rest) ≡ true
  pub clear : Clear (IsBorderPort I) n rest

-- a node of the border from which a step leads behind it
pub record IsBefore (I : Isolation) (n : Node) : Type 0 where
  pub border : IsBorder I n
  pub next : Node
  pub step : goes I n next ≡ true
  pub behind : IsBehind I next

module _ (I : Isolation) (reached : List Node) (reach : IsReach (goes I) I.starts reached) (own : HaveOwnPorts reached) where
  needed_from_before : (n : Node) → IsBefore I n → IsNeeded I n.port
  needed_from_before n b =
      needed_here I reached reach own (last_node b.next b.behind.rest) n b.next b.behind.rest b.behind.controlled b.border b.step b.behind.follows refl b.behind.clear

  -- after its last node with the needed port a walk is behind the border
  last_part : IsIsolable I → (q : Port) → IsBorderPort I q → (n : Node) → is_controlled I n ≡ true → (x : Node) (ms : List Node) → Walk (goes I) I.starts x → Follow (goes I) x ms
      → last_node x ms ≡ n → ((k : Node) → Among (x ∷ ms) k → IsBorderPort I k.port → k.port ≡ q) → ((k : Node) × IsBefore I k × (k.port ≡ q)) ⊎ Clear (IsBorderPort I) x ms
  unfolding Clear
  last_part isolable q b n controlled x [] w f last alone =
      inr (λ p. isolable x.port (record { node = x; place = inr (border_here I reached reach own x w p); controlled = subst (λ k. is_controlled I k ≡ true) (sym last) controlled; port = refl }))
  last_part isolable q b n controlled x (m ∷ ms) w f last alone =
      elim (last_part isolable q b n controlled m ms (walk_on (goes I) I.starts x m w f.0) f.1 last (λ k h. alone k (inr h))) [
        | inl before ↦ inl before
        | inr clear ↦ elim (decided (same_port x.port q) refl) [
          | inl e ↦ inl (
            x,
            record {
              border = border_here I reached reach own x w (subst (IsBorderPort I) (sym e) b);
              next = m;
              step = f.0;
              behind = record { rest = ms; follows = f.1; controlled = subst (λ k. is_controlled I k ≡ true) (sym last) controlled; clear = clear };
            },
            e,
          )
          | inr d ↦ inr ((λ p. d (alone x (inl refl) p)), clear)
        ]
      ]
    where
      decided : (b : Bool) → same_port x.port q ≡ b → (x.port ≡ q) ⊎ ¬ (x.port ≡ q)
      decided true e = inl (port_same x.port q e)
      decided false e = inr (λ i. true≢false (sym (subst (λ r. same_port x.port r ≡ true) i (port_itself x.port)) ∙ e))

  before_from_needed : IsIsolable I → (q : Port) → IsNeeded I q → (k : Node) × IsBefore I k × (k.port ≡ q)
  before_from_needed isolable q needed =
      let w = needed.walk in
      let alone : (k : Node) → Among (w.first ∷ w.rest) k → IsBorderPort I k.port → k.port ≡ q = λ k h p.
      needed.alone k.port (contains_from_among (ports_on w) k.port (among-map (λ k. k.port) (w.first ∷ w.rest) k h)) p in
      let passed = among_from-map (λ k. k.port) (w.first ∷ w.rest) q (among_from_contains (ports_on w) q needed.passed) in
      elim (last_part isolable q needed.border needed.end needed.controlled w.first w.rest (walk_from_start (goes I) I.starts w.first (among_from_contains I.starts w.first w.begins)) w.follows w.ends alone) [
        | inl before ↦ before
        | inr clear ↦ absurd (from_clear (IsBorderPort I) w.first w.rest clear passed.0 passed.1 (subst (IsBorderPort I) (sym passed.2) needed.border))
      ]

  -- ---- the walk back

  -- the test tells the nodes of the border
  pub record IsBorderTest (border : Node → Bool) : Type 0 where
    pub sound : (n : Node) → Among reached n → border n ≡ true → IsBorder I n
    pub whole : (n : Node) → IsBorder I n → border n ≡ true

  module _ (isolable : IsIsolable I) (border : Node → Bool) (is : IsBorderTest border) where
    -- a step back, from a node that is not of the border
    abbrev pub goes_back : Node → Node → Bool
    goes_back m n = not (border m) && goes I n m

    -- the reached nodes with controllers
    abbrev pub ends : List Node
    ends = filter (is_controlled I) reached

    -- what the walk back comes to
    abbrev pub back : List Node
    back = reached_among goes_back reached ends

    clear_from : (n : Node) → Among reached n → border n ≡ false → ¬ (IsBorderPort I n.port)
    clear_from n h e p =
        let here = border_here I reached reach own n ((reach.exact n).0 (contains_from_among reached n h)) p in
        true≢false (sym (is.whole n here) ∙ e)

    clear_into : (n : Node) → Among reached n → ¬ (IsBorderPort I n.port) → border n ≡ false
    clear_into n h d = by_test (border n) (λ t. absurd (d (record { node = n; border = is.sound n h t; port = refl }))) (λ f. f)

    -- what the walk back comes to is behind the border, or of it and before what is behind
    IsMet : Node → Type 0
    IsMet n = Among reached n × (border n ≡ true → IsBefore I n) × (border n ≡ false → IsBehind I n)

    met_end : (n : Node) → Among ends n → IsMet n
    unfolding Clear IsMet
    met_end n h =
        let at = among_from-filter (is_controlled I) reached n h in (
          at.0,
          λ t. absurd (isolable n.port (record { node = n; place = inr (is.sound n at.0 t); controlled = at.1; port = refl })),
          λ f. record { rest = []; follows = tt; controlled = at.1; clear = clear_from n at.0 f },
        )

    met_on : (m n : Node) → IsMet m → steps_among goes_back reached m n ≡ true → IsMet n
    unfolding Clear IsMet
    met_on m n p e =
        let parts = both_true (has_node reached m && has_node reached n) (goes_back m n) e in
        let there = from_has reached n (both_true (has_node reached m) (has_node reached n) parts.0).1 in
        let step = both_true (not (border m)) (goes I n m) parts.1 in
        let b = p.2 (false_not (border m) step.0) in (
          there,
          λ t. record { border = is.sound n there t; next = m; step = step.1; behind = b },
          λ f. record { rest = m ∷ b.rest; follows = (step.1, b.follows); controlled = b.controlled; clear = (clear_from n there f, b.clear) },
        )

    met : (n : Node) → Walk (steps_among goes_back reached) ends n → IsMet n
    met = reached_have (steps_among goes_back reached) ends IsMet met_end met_on

    -- the walk back comes to each reached node behind the border
    comes : (n : Node) (ms : List Node) → Among reached n → Follow (goes I) n ms → is_controlled I (last_node n ms) ≡ true → Clear (IsBorderPort I) n ms
        → Walk (steps_among goes_back reached) ends n × (border n ≡ false)
    unfolding Clear
    comes n [] h f c clear = (walk_from_start (steps_among goes_back reached) ends n (among-filter (is_controlled I) reached n h c), clear_into n h clear)
    comes n (m ∷ ms) h f c clear =
        let there = among_from_contains reached m ((reach.exact m).1 (walk_on (goes I) I.starts n m ((reach.exact n).0 (contains_from_among reached n h)) f.0)) in
        let rest = comes m ms there f.1 c clear.1 in
        (walk_on (steps_among goes_back reached) ends m n rest.0 (in_step goes_back reached ends m n there h (true_both (not (border m)) (goes I n m) (ap not rest.1) f.0)), clear_into n h clear.0)

    -- a node of the border is needed exactly where the walk back comes to it
    abbrev pub is_met : Node → Bool
    is_met n = border n && has_node back n

    pub met_needed : (n : Node) → Among reached n → is_met n ≡ true → IsNeeded I n.port
    unfolding IsMet
    met_needed n h e =
        let parts = both_true (border n) (has_node back n) e in
        let walk = ((reach_among goes_back reached ends).exact n).0 (contains_from_among back n (from_has back n parts.1)) in
        needed_from_before n ((met n walk).1 parts.0)

    pub needed_met : (q : Port) → IsNeeded I q → (n : Node) × Among reached n × (is_met n ≡ true) × (n.port ≡ q)
    needed_met q needed =
        let found = before_from_needed isolable q needed in
        let n = found.0 in
        let b = found.1 in
        let here = among_from_contains reached n ((reach.exact n).1 (border_walk I n b.border)) in
        let there = among_from_contains reached b.next ((reach.exact b.next).1 (walk_on (goes I) I.starts n b.next (border_walk I n b.border) b.step)) in
        let rest = comes b.next b.behind.rest there b.behind.follows b.behind.controlled b.behind.clear in
        let walk = walk_on (steps_among goes_back reached) ends b.next n rest.0
        (in_step goes_back reached ends b.next n there here (true_both (not (border b.next)) (goes I n b.next) (ap not rest.1) b.step)) in
        (n, here, true_both (border n) (has_node back n) (is.whole n b.border) (has_from back n (among_from_contains back n (((reach_among goes_back reached ends).exact n).1 walk))), found.2)
