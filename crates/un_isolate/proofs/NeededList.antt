-- The list of needed ports has exactly the needed ones, and is the only such list.
use Rattle.std.proofs.Common.{◌≡◌, true, false, not, List, [], ◌∷◌, filter, inl, inr, refl, sym, ap, subst, ◌∙◌, Contains, true≢false}
use Rattle.std.specs.List.{list_any}
use Rattle.un_defs.specs.declared.port.Port.{Port}
use Rattle.un_defs.specs.declared.port.Node.{Node}
use Rattle.un_defs.specs.Orders.{port_cmp, same_port}
use Rattle.un_defs.specs.Reach.{Follow, last_node, Walk, IsReach}
use Rattle.un_defs.specs.Linked.{HaveOwnPorts}
use Rattle.un_defs.proofs.Rising.{Among, among-rising, among_from-rising, sorted-rising, sorted_unique}
use Rattle.un_defs.proofs.Members.{among_from-filter, among-filter, among_from-map, among-map, contains_from_among, among_from_contains, among_from_list_any, list_any_from_among}
use Rattle.un_defs.proofs.OrderLaws.{port_total, port_ties}
use Rattle.un_defs.proofs.Unique.{port_same, port_itself}
use Rattle.un_defs.proofs.Walking.{walk_from_start, walk_on}
use Rattle.un_isolate.specs.Isolation.{Isolation, is_controlled, goes, IsBorderPort, IsIsolable, ports_on, IsNeeded, AreNeeded, shut, StartsAreClear}
use Rattle.un_isolate.specs.IsolationList.{ports_of, border_nodes, border_ports, part_behind, is_needed, needed_ports}
use Rattle.un_isolate.specs.Laws.{NeededListLaw}
use Rattle.un_isolate.proofs.Listing.{from_border, among_border, part_listed}
use Rattle.un_isolate.proofs.Separation.{plain_step, border_here, by_test, false_not, free_ports, clear_reaches_inside, follow_by}
use Rattle.un_isolate.proofs.Sublists.{sorted-filter}

module _ (I : Isolation) (reached : List Node) (reach : IsReach (goes I) I.starts reached) where
  from_border_ports : (q : Port) → Among (border_ports I reached) q → IsBorderPort I q
  from_border_ports q h =
      let n = among_from-map (λ n. n.port) (border_nodes I reached) q (among_from-rising port_cmp (ports_of (border_nodes I reached)) q h) in
      record { node = n.0; border = from_border I reached reach n.0 n.1; port = n.2 }

  among_border_ports : (q : Port) → IsBorderPort I q → Among (border_ports I reached) q
  among_border_ports q b =
      among-rising port_cmp (ports_of (border_nodes I reached)) (λ r t _ _ e. port_ties r t e) q
      (subst (Among (ports_of (border_nodes I reached))) b.port (among-map (λ n. n.port) (border_nodes I reached) b.node (among_border I reached reach b.node b.border)))

  -- all ports of the border but one
  abbrev others : Port → List Port
  others b = filter (λ q. not (same_port q b)) (border_ports I reached)

  other_differs : (b q : Port) → list_any (same_port q) (others b) ≡ true → ¬ (q ≡ b)
  other_differs b q e same =
      let r = among_from_list_any (same_port q) (others b) e in
      let kept = among_from-filter (λ q. not (same_port q b)) (border_ports I reached) r.0 r.1 in
      let apart : same_port q b ≡ false = ap (λ x. same_port x b) (port_same q r.0 r.2) ∙ false_not (same_port r.0 b) kept.1 in
      true≢false (sym (port_itself q) ∙ ap (same_port q) same ∙ apart)

  other_listed : (b q : Port) → IsBorderPort I q → list_any (same_port q) (others b) ≡ false → q ≡ b
  other_listed b q p e = by_test (same_port q b) (port_same q b) (λ f. absurd (true≢false (sym
      (list_any_from_among (same_port q) (others b) q (among-filter (λ q. not (same_port q b)) (border_ports I reached) q (among_border_ports q p) (ap not f)) (port_itself q)) ∙ e)))

  -- a needed port is one by the test
  is_listed : (b : Port) → IsNeeded I b → is_needed I reached b ≡ true
  is_listed b needed =
      let w = needed.walk in
      let free : (k : Node) → Among (w.first ∷ w.rest) k → list_any (same_port k.port) (others b) ≡ false = λ k h.
      by_test (list_any (same_port k.port) (others b))
      (λ t.
      let r = among_from_list_any (same_port k.port) (others b) t in
      let same : k.port ≡ r.0 = port_same k.port r.0 r.2 in
      let p : IsBorderPort I k.port = subst (IsBorderPort I) (sym same) (from_border_ports r.0 (among_from-filter (λ q. not (same_port q b)) (border_ports I reached) r.0 r.1).0) in
      absurd (other_differs b k.port t (needed.alone k.port (contains_from_among (ports_on w) k.port (among-map (λ n. n.port) (w.first ∷ w.rest) k h)) p)))
      (λ f. f) in
      let walk : Walk (goes (shut I (others b))) I.starts needed.end = record {
        first = w.first;
        rest = w.rest;
        begins = w.begins;
        follows = free_ports I (others b) w.first w.rest free w.follows;
        ends = w.ends;
      } in
      list_any_from_among (is_controlled I) (part_behind I reached (others b)) needed.end
      (among_from_contains (part_behind I reached (others b)) needed.end (((part_listed I reached reach (others b)).exact needed.end).1 walk)) needed.controlled

  module _ (own : HaveOwnPorts reached) (clear : StartsAreClear I) (isolable : IsIsolable I) where
    -- on a walk to a controller, with the other ports of the border shut, a port of the border is the one
    all_one : (b : Port) (n : Node) → is_controlled I n ≡ true → (x : Node) (ms : List Node) → Walk (goes I) I.starts x → Follow (goes (shut I (others b))) x ms → last_node x ms ≡ n
        → (k : Node) → Among (x ∷ ms) k → IsBorderPort I k.port → k.port ≡ b
    all_one b n controlled x [] w f last k h p = elim h [
      | inl e ↦
          let here = border_here I reached reach own k (subst (Walk (goes I) I.starts) e w) p in
          absurd (isolable k.port (record { node = k; place = inr here; controlled = subst (λ m. is_controlled I m ≡ true) (sym last ∙ e) controlled; port = refl }))
      | inr i ↦ absurd i
    ]
    all_one b n controlled x (m ∷ ms) w f last k h p =
        let step = plain_step I (others b) x m f.0 in
        let rest = all_one b n controlled m ms (walk_on (goes I) I.starts x m w step.0) f.1 last k in
        elim h [
          | inl e ↦ other_listed b k.port p (ap (λ y. list_any (same_port y.port) (others b)) (sym e) ∙ step.1)
          | inr i ↦ rest i p
        ]

    -- a port of the border that is one by the test is needed
    from_test : (b : Port) → IsBorderPort I b → is_needed I reached b ≡ true → IsNeeded I b
    from_test b p e =
        let n = among_from_list_any (is_controlled I) (part_behind I reached (others b)) e in
        let v = ((part_listed I reached reach (others b)).exact n.0).0 (contains_from_among (part_behind I reached (others b)) n.0 n.1) in
        let begins = among_from_contains I.starts v.first v.begins in
        let follows = follow_by (goes (shut I (others b))) (goes I) (λ k l h. (plain_step I (others b) k l h).0) v.first v.rest v.follows in
        let w : Walk (goes I) I.starts n.0 = record { first = v.first; rest = v.rest; begins = v.begins; follows = follows; ends = v.ends } in
        let one = all_one b n.0 n.2 v.first v.rest (walk_from_start (goes I) I.starts v.first begins) v.follows v.ends in
        let alone : (q : Port) → Contains (ports_on w) q → IsBorderPort I q → q ≡ b = λ q h r.
        let k = among_from-map (λ k. k.port) (w.first ∷ w.rest) q (among_from_contains (ports_on w) q h) in
        sym k.2 ∙ one k.0 k.1 (subst (IsBorderPort I) (sym k.2) r) in
        by_test (list_any (same_port b) (ports_on w))
        (λ t. record {
          border = p;
          end = n.0;
          controlled = n.2;
          walk = w;
          passed = let r = among_from_list_any (same_port b) (ports_on w) t in contains_from_among (ports_on w) b (subst (Among (ports_on w)) (sym (port_same b r.0 r.2)) r.1);
          alone = alone;
        })
        (λ f. absurd (clear_reaches_inside I clear isolable n.0 n.2 w (λ k h r.
        let same = one k h r in
        true≢false (sym (list_any_from_among (same_port b) (ports_on w) b (subst (Among (ports_on w)) same (among-map (λ k. k.port) (w.first ∷ w.rest) k h)) (port_itself b)) ∙ f))))

    pub needed_listed : AreNeeded I (needed_ports I reached)
    needed_listed = record {
      rising = sorted-filter port_cmp (is_needed I reached) (border_ports I reached) (sorted-rising port_total (ports_of (border_nodes I reached)));
      exact = λ q. (
        λ h.
            let f = among_from-filter (is_needed I reached) (border_ports I reached) q (among_from_contains (needed_ports I reached) q h) in
            from_test q (from_border_ports q f.0) f.1,
        λ needed. contains_from_among (needed_ports I reached) q
            (among-filter (is_needed I reached) (border_ports I reached) q (among_border_ports q needed.border) (is_listed q needed)),
      );
    }

    pub only_needed : (ports : List Port) → AreNeeded I ports → ports ≡ needed_ports I reached
    only_needed ports are =
        sorted_unique port_total ports (needed_ports I reached) are.rising needed_listed.rising
        (λ q h. among_from_contains (needed_ports I reached) q ((needed_listed.exact q).1 ((are.exact q).0 (contains_from_among ports q h))))
        (λ q h. among_from_contains ports q ((are.exact q).1 ((needed_listed.exact q).0 (contains_from_among (needed_ports I reached) q h))))

pub needed_list : NeededListLaw
needed_list I reached reach own clear isolable = needed_listed I reached reach own clear isolable
