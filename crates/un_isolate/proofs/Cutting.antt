-- What marks on places say of an isolation.
use Rattle.std.proofs.Common.{◌≡◌, ℕ, Bool, true, not, ◌&&◌, List, ◌++◌, map, filter, length, Some, None, inl, inr, ◌⊎◌, refl, sym, ap, subst, subst₂, ◌∙◌, Contains, true≢false}
use Rattle.std.specs.Prelude.{slice_get}
use Rattle.std.specs.List.{list_any}
use Rattle.std.specs.Ordering.{is_le}
use Rattle.std.proofs.lemmas.Option.{slice_get_within}
use Rattle.std.specs.List.Sorted.{IsStrictlySortedBy}
use Rattle.smallvec.specs.SmallVec.{SmallVec}
use Rattle.un_defs.specs.declared.port.Port.{Port}
use Rattle.un_defs.specs.declared.port.Node.{Node}
use Rattle.un_defs.specs.Orders.{node_cmp, port_cmp, same_port}
use Rattle.un_defs.specs.Reach.{IsReach}
use Rattle.un_defs.proofs.Rising.{Among, sorted_unique}
use Rattle.un_defs.proofs.Members.{among-filter, among_from-filter, among-map, among_from-map, contains_from_among, among_from_contains, among_from_list_any, list_any_from_among}
use Rattle.un_defs.proofs.LinkCases.{both_true, true_both}
use Rattle.un_defs.proofs.OrderLaws.{port_total, node_total}
use Rattle.un_defs.proofs.Unique.{port_same, port_itself}
use Rattle.un_walk.proofs.Spreading.{has_from, from_has}
use Rattle.un_isolate.specs.declared.network.Network.{Network}
use Rattle.un_isolate.specs.Isolation.{Isolation, is_isolating, is_controlled, goes, IsInner, IsBorder, IsInTheWay, IsIsolable, AreNeeded, shut}
use Rattle.un_isolate.specs.IsolationList.{has_node, reached_among, ports_of, inner_nodes, border_nodes, first_in_the_way, needed_ports, part_nodes}
use Rattle.un_isolate.specs.Links.{AreTurned}
use Rattle.un_isolate.specs.Marks.{both_marks, marked_nodes}
use Rattle.un_isolate.specs.Network.{IsNetworkOf, IsBasis}
use Rattle.un_isolate.specs.Spread.{AreReached}
use Rattle.un_isolate.proofs.Listing.{starts_in, goes_in, from_zone, among_zone, isolable_from, none_first, first_is, among_is_reach, among_within, part_listed}
use Rattle.un_isolate.proofs.Zone.{goes_out, zone_from, zone_walk}
use Rattle.un_isolate.proofs.Separation.{plain_step, shut_step, inner_is_clear, border_walk, false_not}
use Rattle.un_isolate.proofs.Back.{IsBorderTest, met_needed, needed_met}
use Rattle.un_isolate.proofs.Back as to_border
use Rattle.un_isolate.proofs.NeededList.{needed_listed}
use Rattle.un_isolate.proofs.Sublists.{sorted-filter, ports_sorted}
use Rattle.un_isolate.proofs.Places.{bool_same, among_place, first_le, none_at, map-agree, both-map, marked-map}
use Rattle.un_isolate.proofs.Marked.{AreSteps, marks_are}

module _ (I : Isolation) (reached : List Node) (network : Network) (is : IsNetworkOf I reached network) (basis : IsBasis I reached) where
  sorted : IsStrictlySortedBy node_cmp reached
  sorted = basis.reach.rising

  -- marks that a spread over the links makes, where it goes on from nodes that are not shut
  spread_onward : (free : Node → Bool) (marks : List Bool) → AreReached network.onward.items network.starts.items (map free reached) marks
      → marks ≡ map (has_node (reached_among (λ n m. not (free n) && goes I n m) reached I.starts)) reached
  spread_onward free marks are =
      marks_are reached sorted (goes I) network.onward.items is.count is.exact (has_node I.starts) free I.starts (λ n h. refl) (starts_in I reached basis.reach) marks
      (subst (λ starts. AreReached network.onward.items starts (map free reached) marks) is.starts are)

  abbrev in_zone : Node → Bool
  in_zone = has_node (inner_nodes I reached ++ border_nodes I reached)

  -- ---- the inner nodes and the border

  zone_found : (n : Node) → has_node (reached_among (goes_out I) reached I.starts) n ≡ has_node (inner_nodes I reached ++ border_nodes I reached) n
  zone_found n = bool_same (has_node outside n) (has_node zone n)
      (λ e. has_from zone n (among_zone I reached basis.reach n (zone_from I basis.clear n ((listed.exact n).0 (contains_from_among outside n (from_has outside n e))))))
      (λ e. has_from outside n (among_from_contains outside n ((listed.exact n).1 (zone_walk I n (from_zone I reached basis.reach n (from_has zone n e))))))
    where
      outside : List Node
      outside = reached_among (goes_out I) reached I.starts

      zone : List Node
      zone = inner_nodes I reached ++ border_nodes I reached

      listed : IsReach (goes_out I) I.starts (reached_among (goes_out I) reached I.starts)
      listed = among_is_reach (goes_out I) reached I.starts (starts_in I reached basis.reach)
          (λ n m h e. goes_in I reached basis.reach n m h (both_true (not (is_isolating I n)) (goes I n m) e).1)

  pub zone_marked : (zone : List Bool) → AreReached network.onward.items network.starts.items network.isolating.items zone
      → zone ≡ map (has_node (inner_nodes I reached ++ border_nodes I reached)) reached
  zone_marked zone are =
      spread_onward (is_isolating I) zone (subst (λ closed. AreReached network.onward.items network.starts.items closed zone) is.isolating are)
      ∙ map-agree (has_node (reached_among (goes_out I) reached I.starts)) (has_node (inner_nodes I reached ++ border_nodes I reached)) reached (λ n h. zone_found n)

  module _ (zone : List Bool) (marked : zone ≡ map (has_node (inner_nodes I reached ++ border_nodes I reached)) reached) where
    -- ---- what stands in the way

    abbrev is_blocked : Node → Bool
    is_blocked n = in_zone n && is_controlled I n

    blocked_nodes : marked_nodes reached (both_marks zone network.controlled.items) ≡ filter is_blocked reached
    blocked_nodes =
        (λ i. marked_nodes reached (both_marks (marked i) (is.controlled i)))
        ∙ ap (marked_nodes reached) (both-map in_zone (is_controlled I) reached)
        ∙ marked-map is_blocked reached

    among_blocked : (q : Port) (way : IsInTheWay I q) → Among (filter is_blocked reached) way.node
    among_blocked q way =
        among-filter is_blocked reached way.node (in_reached way.place)
        (true_both (in_zone way.node) (is_controlled I way.node) (has_from (inner_nodes I reached ++ border_nodes I reached) way.node (among_zone I reached basis.reach way.node way.place)) way.controlled)
      where
        in_reached : IsInner I way.node ⊎ IsBorder I way.node → Among reached way.node
        in_reached place = elim place [
          | inl w ↦ among_from_contains reached way.node ((basis.reach.exact way.node).1 (inner_is_clear I way.node w).walk)
          | inr b ↦ among_from_contains reached way.node ((basis.reach.exact way.node).1 (border_walk I way.node b))
        ]

    pub blocked_is : (n : Node) → slice_get (marked_nodes reached (both_marks zone network.controlled.items)) 0 ≡ Some n → first_in_the_way I reached ≡ Some n.port
    blocked_is n e =
        let first : slice_get (filter is_blocked reached) 0 ≡ Some n = ap (λ l. slice_get l 0) (sym blocked_nodes) ∙ e in
        let here = among_from-filter is_blocked reached n (among_place (filter is_blocked reached) 0 n first) in
        let parts = both_true (in_zone n) (is_controlled I n) here.1 in
        let place = from_zone I reached basis.reach n (from_has (inner_nodes I reached ++ border_nodes I reached) n parts.0) in
        first_is I reached basis.reach n.port (record {
          one = record { node = n; place = place; controlled = parts.1; port = refl };
          least = λ r way. subst (λ q. is_le (port_cmp n.port q) ≡ true) way.port
              (first_le (filter is_blocked reached) (sorted-filter node_cmp is_blocked reached sorted) n way.node first (among_blocked r way));
        })

    pub free_is : slice_get (marked_nodes reached (both_marks zone network.controlled.items)) 0 ≡ None → first_in_the_way I reached ≡ None
    free_is e = none_first I reached basis.reach (λ q way. none_at (filter is_blocked reached) (ap (λ l. slice_get l 0) (sym blocked_nodes) ∙ e) way.node (among_blocked q way))

    -- ---- the needed ports

    module _ (free : first_in_the_way I reached ≡ None) where
      isolable : IsIsolable I
      isolable = isolable_from I reached basis.reach free

      abbrev on_border : Node → Bool
      on_border n = in_zone n && is_isolating I n

      border_marks : both_marks zone network.isolating.items ≡ map on_border reached
      border_marks = (λ i. both_marks (marked i) (is.isolating i)) ∙ both-map in_zone (is_isolating I) reached

      border_test : IsBorderTest I reached basis.reach basis.own_ports on_border
      border_test = record {
        sound = λ n h e.
            let parts = both_true (in_zone n) (is_isolating I n) e in
            elim (from_zone I reached basis.reach n (from_has (inner_nodes I reached ++ border_nodes I reached) n parts.0)) [
              | inl w ↦ absurd (true≢false (sym parts.1 ∙ (inner_is_clear I n w).clear))
              | inr b ↦ b
            ];
        whole = λ n b. true_both (in_zone n) (is_isolating I n)
            (has_from (inner_nodes I reached ++ border_nodes I reached) n (among_zone I reached basis.reach n (inr b))) b.isolating;
      }

      module _ (back : List (SmallVec ℕ)) (turned : AreTurned network.onward.items back (length network.onward.items)) where
        back_steps : AreSteps reached sorted (λ m n. goes I n m) back
        back_steps i j = (
          λ link. let (n, m, at_n, at_m, e) = (is.exact j i).0 ((turned.exact j i).0 link).1 in (m, n, at_m, at_n, e),
          λ (m, n, at_m, at_n, e).
              let link = (is.exact j i).1 (n, m, at_n, at_m, e) in
              (turned.exact j i).1 (slice_get_within network.onward.items j link.0 link.1, link),
        )

        is_end : (n : Node) → Among reached n → is_controlled I n ≡ has_node (filter (is_controlled I) reached) n
        is_end n h = bool_same (is_controlled I n) (has_node (filter (is_controlled I) reached) n)
            (λ e. has_from (filter (is_controlled I) reached) n (among-filter (is_controlled I) reached n h e))
            (λ e. (among_from-filter (is_controlled I) reached n (from_has (filter (is_controlled I) reached) n e)).1)

        abbrev is_met : Node → Bool
        is_met = to_border.is_met I reached basis.reach basis.own_ports isolable on_border border_test

        met_marks : (before : List Bool) → AreReached back network.controlled.items (both_marks zone network.isolating.items) before
            → both_marks (both_marks zone network.isolating.items) before ≡ map is_met reached
        met_marks before are =
            let found = marks_are reached sorted (λ m n. goes I n m) back (turned.count ∙ is.count) back_steps (is_controlled I) on_border (filter (is_controlled I) reached) is_end
            (λ n h. (among_from-filter (is_controlled I) reached n h).0) before
            (subst₂ (λ starts closed. AreReached back starts closed before) is.controlled border_marks are) in
            (λ i. both_marks (border_marks i) (found i)) ∙ both-map on_border (has_node (to_border.back I reached basis.reach basis.own_ports isolable on_border border_test)) reached

        met_is : (n : Node) → Among reached n → is_met n ≡ list_any (same_port n.port) (needed_ports I reached)
        met_is n h = bool_same (is_met n) (list_any (same_port n.port) (needed_ports I reached))
            (λ e.
            let needed = met_needed I reached basis.reach basis.own_ports isolable on_border border_test n h e in
            list_any_from_among (same_port n.port) (needed_ports I reached) n.port (among_from_contains (needed_ports I reached) n.port ((listed.exact n.port).1 needed)) (port_itself n.port))
            (λ e.
            let q = among_from_list_any (same_port n.port) (needed_ports I reached) e in
            let needed = (listed.exact q.0).0 (contains_from_among (needed_ports I reached) q.0 q.1) in
            let (m, there, met, port) = needed_met I reached basis.reach basis.own_ports isolable on_border border_test q.0 needed in
            let same : m ≡ n = basis.own_ports m n (contains_from_among reached m there) (contains_from_among reached n h) (port ∙ sym (port_same n.port q.0 q.2)) in
            ap is_met (sym same) ∙ met)
          where
            listed : AreNeeded I (needed_ports I reached)
            listed = needed_listed I reached basis.reach basis.own_ports basis.clear isolable

        pub needed_marked : (before : List Bool) → AreReached back network.controlled.items (both_marks zone network.isolating.items) before
            → both_marks (both_marks zone network.isolating.items) before ≡ map (λ n. list_any (same_port n.port) (needed_ports I reached)) reached
        needed_marked before are = met_marks before are ∙ map-agree is_met (λ n. list_any (same_port n.port) (needed_ports I reached)) reached met_is

  -- ---- the reply

  module _ (free : first_in_the_way I reached ≡ None) (needed : List Bool) (marked : needed ≡ map (λ n. list_any (same_port n.port) (needed_ports I reached)) reached) where
    abbrev is_shut_off : Node → Bool
    is_shut_off n = list_any (same_port n.port) (needed_ports I reached)

    listed : AreNeeded I (needed_ports I reached)
    listed = needed_listed I reached basis.reach basis.own_ports basis.clear (isolable_from I reached basis.reach free)

    needed_nodes : marked_nodes reached needed ≡ filter is_shut_off reached
    needed_nodes = ap (marked_nodes reached) marked ∙ marked-map is_shut_off reached

    pub borders_are : ports_of (marked_nodes reached needed) ≡ needed_ports I reached
    borders_are =
        ap ports_of needed_nodes
        ∙ sorted_unique port_total (ports_of (filter is_shut_off reached)) (needed_ports I reached)
        (ports_sorted (filter is_shut_off reached) (λ a b h g. basis.own_ports a b (in_reached a h) (in_reached b g)) (sorted-filter node_cmp is_shut_off reached sorted))
        listed.rising
        (λ q h.
        let n = among_from-map (λ n. n.port) (filter is_shut_off reached) q h in
        let r = among_from_list_any (same_port (n.0).port) (needed_ports I reached) (among_from-filter is_shut_off reached n.0 n.1).1 in
        subst (Among (needed_ports I reached)) (sym (port_same (n.0).port r.0 r.2) ∙ n.2) r.1)
        (λ q h.
        let b = ((listed.exact q).0 (contains_from_among (needed_ports I reached) q h)).border in
        let here = among_from_contains reached b.node ((basis.reach.exact b.node).1 (border_walk I b.node b.border)) in
        let shut_off = list_any_from_among (same_port b.node.port) (needed_ports I reached) q h (subst (λ r. same_port b.node.port r ≡ true) b.port (port_itself b.node.port)) in
        subst (Among (ports_of (filter is_shut_off reached))) b.port (among-map (λ n. n.port) (filter is_shut_off reached) b.node (among-filter is_shut_off reached b.node here shut_off)))
      where
        in_reached : (n : Node) → Contains (filter is_shut_off reached) n → Contains reached n
        in_reached n h = contains_from_among reached n (among_from-filter is_shut_off reached n (among_from_contains (filter is_shut_off reached) n h)).0

    same_step : (n m : Node) → (not (is_shut_off n) && goes I n m) ≡ goes (shut I (needed_ports I reached)) n m
    same_step n m = bool_same (not (is_shut_off n) && goes I n m) (goes (shut I (needed_ports I reached)) n m)
        (λ e. let parts = both_true (not (is_shut_off n)) (goes I n m) e in shut_step I (needed_ports I reached) n m parts.1 (false_not (is_shut_off n) parts.0))
        (λ e. let step = plain_step I (needed_ports I reached) n m e in true_both (not (is_shut_off n)) (goes I n m) (ap not step.1) step.0)

    pub part_is : (part : List Bool) → AreReached network.onward.items network.starts.items needed part → marked_nodes reached part ≡ part_nodes I reached
    part_is part are =
        let marks = spread_onward is_shut_off part (subst (λ closed. AreReached network.onward.items network.starts.items closed part) marked are)
        ∙ (λ i. map (has_node (reached_among (λ n m. same_step n m i) reached I.starts)) reached) in
        ap (marked_nodes reached) marks
        ∙ marked-map (has_node (part_nodes I reached)) reached
        ∙ sorted_unique node_total (filter (has_node (part_nodes I reached)) reached) (part_nodes I reached)
        (sorted-filter node_cmp (has_node (part_nodes I reached)) reached sorted)
        (part_listed I reached basis.reach (needed_ports I reached)).rising
        (λ n h. from_has (part_nodes I reached) n (among_from-filter (has_node (part_nodes I reached)) reached n h).1)
        (λ n h. among-filter (has_node (part_nodes I reached)) reached n
        (among_within (goes (shut I (needed_ports I reached))) reached I.starts (starts_in I reached basis.reach) n h) (has_from (part_nodes I reached) n h))
