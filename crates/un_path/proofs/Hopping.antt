-- The hops by the links of a node are the steps that lead from it.
use Rattle.std.proofs.Common.{◌≡◌, ℕ, ◌≤◌, nat_cmp, Bool, true, false, not, ◌&&◌, List, [], ◌∷◌, ◌++◌, filter, Option, Some, None, inl, inr, refl, sym, ap, subst, ◌∙◌, arith, true≢false}
use Rattle.std.specs.Prelude.{slice_get, unwrap_or, Contains, if◌then◌else◌, ◌||◌}
use Rattle.std.specs.List.{list_any}
use Rattle.std.specs.Option.{option_map, option_map_or}
use Rattle.std.proofs.lemmas.Option.{slice_get_within, slice_get-map, get_or_from_slice_get}
use Rattle.std.specs.Cmp.{nat_cmp_total}
use Rattle.std.specs.FinMap.{nat_cmp-IsAntisymmetric}
use Rattle.std.proofs.lemmas.Bool.{cases_lt}
use Rattle.std.proofs.lemmas.List.Elements.{Contains-append_left, Contains-push, Contains-push_cases}
use Rattle.un_defs.specs.declared.port.Node.{Node}
use Rattle.un_defs.specs.declared.link.Tie.{Tie}
use Rattle.un_defs.specs.declared.star.Spot.{Spot}
use Rattle.un_defs.specs.declared.walk.Barriers.{Barriers}
use Rattle.un_defs.specs.declared.walk.Mode.TheVariants.{Any}
use Rattle.un_defs.specs.Orders.{least, same_node, same_port}
use Rattle.un_defs.specs.Ground.{Ground, entry, ties, is_dirty}
use Rattle.un_defs.specs.Reach.{leads, is_open, is_barrier, is_path, is_shut, goes_by, controls, meets_condition}
use Rattle.un_defs.proofs.Rising.{Among, TiesAreOne}
use Rattle.un_defs.proofs.Members.{among_from_contains, contains_from_among, among-map, among_from-map, among-filter, among_from-filter, list_any_from_among, among_from_list_any}
use Rattle.un_defs.proofs.LinkCases.{both_true, true_both, some_same}
use Rattle.un_defs.proofs.Unique.{node_same, node_itself}
use Rattle.un_walk.specs.declared.seen.Seen.{Seen}
use Rattle.un_walk.specs.Seen.{spot_of, is_barrier_by}
use Rattle.un_walk.proofs.DirtMet.{least_among, least_low, none_low}
use Rattle.un_walk.proofs.Entered.{each_entry}
use Rattle.un_ask.specs.declared.typed.Weight.{Weight}
use Rattle.un_path.specs.declared.hops.Hop.{Hop}
use Rattle.un_path.specs.Costs.{is_segment, segment_cost, link_cost, link_costs, step_cost}
use Rattle.un_path.specs.Hops.{cost_by, IsAt, IsHopBy, AreHopsBy, AreReached, AreHops}
use Rattle.un_path.proofs.Numbers.{less_by}
use Rattle.un_path.proofs.Places.{place_from}

-- ---- the least of some costs

ties_are_one : (xs : List ℕ) → TiesAreOne nat_cmp xs
ties_are_one xs x y h g e = nat_cmp-IsAntisymmetric x y e

-- none is below it
least_below : (xs : List ℕ) (c : ℕ) → Among xs c → unwrap_or (least nat_cmp xs) 0 ≤ c
least_below xs c h = go (least nat_cmp xs) refl
  where
    go : (o : Option ℕ) → least nat_cmp xs ≡ o → unwrap_or o 0 ≤ c
    go None e = omega arith
    go (Some x) e = elim (cases_lt c x) [
      | inl low ↦ absurd (least_low nat_cmp_total xs x c (ties_are_one xs) e h (less_by c x low))
      | inr high ↦ high
    ]

-- it is one of them
least_one : (xs : List ℕ) (c : ℕ) → Among xs c → Among xs (unwrap_or (least nat_cmp xs) 0)
least_one xs c h = go (least nat_cmp xs) refl
  where
    go : (o : Option ℕ) → least nat_cmp xs ≡ o → Among xs (unwrap_or o 0)
    go None e = absurd (none_low nat_cmp_total xs c (ties_are_one xs) e h)
    go (Some x) e = least_among nat_cmp_total xs x e

-- ---- one more link

module _ (w : Weight) (nodes : List Node) (s : Spot) (all : List Tie) (hops : List Hop) (so_far : AreHopsBy w nodes s all hops) (t : Tie) where
  pub hops_with : (h : Hop) → IsAt nodes h.to t.to → ((i : ℕ) → IsAt nodes i t.to → i ≡ h.to) → h.cost ≡ cost_by w s t → AreHopsBy w nodes s (all ++ t ∷ []) (hops ++ h ∷ [])
  hops_with h at only costs = record {
    sound = λ k has. elim (Contains-push_cases hops h k has) [
      | inl before ↦ let old = so_far.sound k before in (old.0, Contains-append_left all (t ∷ []) old.0 old.1, old.2)
      | inr same ↦ (t, Contains-push all t, subst (IsHopBy w nodes s t) same (record { to = at; costs = costs }))
    ];
    whole = λ u i has there. elim (Contains-push_cases all t u has) [
      | inl before ↦ let old = so_far.whole u i before there in (old.0, Contains-append_left hops (h ∷ []) old.0 old.1, old.2, old.3)
      | inr same ↦ (h, Contains-push hops h, sym (only i (ap (λ (x : Tie). slice_get nodes i) same ∙ there ∙ ap (λ (x : Tie). Some x.to) (sym same))), costs ∙ ap (cost_by w s) same)
    ];
  }

  pub hops_without : ((i : ℕ) → IsAt nodes i t.to → ⊥) → AreHopsBy w nodes s (all ++ t ∷ []) hops
  hops_without none = record {
    sound = λ k has. let old = so_far.sound k has in (old.0, Contains-append_left all (t ∷ []) old.0 old.1, old.2);
    whole = λ u i has there. elim (Contains-push_cases all t u has) [
      | inl before ↦ so_far.whole u i before there
      | inr same ↦ absurd (none i (there ∙ ap (λ (x : Tie). Some x.to) (sym same)))
    ];
  }

-- ---- links and steps over the ground

and_false : (a : Bool) {b : Bool} → b ≡ false → (a && b) ≡ false
and_false true e = e
and_false false e = refl

module _ (G : Ground) (B : Barriers) (seen : List Seen) (nodes : List Node) (are : AreReached G B seen nodes) where
  open_by : (n : Node) → Contains nodes n → is_barrier G B n ≡ false → is_open G B n ≡ true
  open_by n h e = λ i. not (e i) && not (and_false B.consistent (are.clean n h) i)

  shut_by_none : (n : Node) (t : Tie) → is_shut G B n t ≡ false
  shut_by_none n t = and_false (is_path t.name) (ap (λ tier. option_map_or (λ k. controls G k n || controls G k t.to) tier false) are.untiered)

  goes : (n : Node) (t : Tie) → goes_by G B Any n t.to t ≡ true
  goes n t = true_both _ _ (true_both _ _ (node_itself t.to) refl) (ap not (shut_by_none n t))

  goes_to : (n m : Node) (t : Tie) → goes_by G B Any n m t ≡ true → t.to ≡ m
  goes_to n m t e = node_same t.to m (both_true _ _ (both_true (same_node t.to m && true) _ e).0).0

  -- what was seen at a node's place
  module _ (i : ℕ) (v : Seen) (n : Node) (at_v : slice_get seen i ≡ Some v) (at_n : IsAt nodes i n) where
    node_is : v.node ≡ n
    node_is = some_same v.node n (sym (slice_get-map (λ (x : Seen). x.node) seen i ∙ ap (option_map (λ (x : Seen). x.node)) at_v) ∙ ap (λ l. slice_get l i) are.are ∙ at_n)

    pub entry_is : spot_of v ≡ entry G n
    entry_is = each_entry G seen are.entries v (among_from_contains seen v (i, slice_get_within seen i v at_v, get_or_from_slice_get seen i v v at_v)) ∙ ap (entry G) node_is

    pub barrier_is : is_barrier_by B v ≡ is_barrier G B n
    barrier_is = λ k. option_map_or (meets_condition B) (entry_is k) false || list_any (same_port (node_is k).port) B.stops

  module _ (w : Weight) (n : Node) (here : Contains nodes n) where
    -- from a barrier no step leads
    pub no_hops : is_barrier G B n ≡ true → AreHops G B w nodes n []
    no_hops e = record {
      sound = λ h has. absurd (among_from_contains [] h has);
      whole = λ m l. absurd (true≢false (sym (both_true (is_open G B n) _ l).0 ∙ ap (λ b. not b && not (B.consistent && is_dirty G n.at)) e));
    }

    -- nor from a node without an entry
    pub no_entry : entry G n ≡ None → AreHops G B w nodes n []
    no_entry e = record {
      sound = λ h has. absurd (among_from_contains [] h has);
      whole = λ m l. absurd (true≢false (sym (both_true (is_open G B n) _ l).1 ∙ ap (λ o. list_any (goes_by G B Any n m) (option_map_or (λ (s : Spot). s.ties) o [])) e));
    }

    module _ (s : Spot) (known : entry G n ≡ Some s) (free : is_barrier G B n ≡ false) where
      ties_are : ties G n ≡ s.ties
      ties_are = ap (λ o. option_map_or (λ (s : Spot). s.ties) o []) known

      cost_is : (t : Tie) → link_cost G w n t ≡ cost_by w s t
      cost_is t = ap (λ o. if is_segment t.name then option_map_or (λ (s : Spot). segment_cost w s.attrs) o 0 else 0) known

      step_by : (m : Node) (t : Tie) → Among s.ties t → t.to ≡ m → leads G B Any n m ≡ true
      step_by m t h e =
          true_both _ _ (open_by n here free)
          (list_any_from_among (goes_by G B Any n m) (ties G n) t (subst (λ l. Among l t) (sym ties_are) h) (subst (λ k. goes_by G B Any n k t ≡ true) e (goes n t)))

      cost_among : (m : Node) (t : Tie) → Among s.ties t → t.to ≡ m → Among (link_costs G B w n m) (cost_by w s t)
      cost_among m t h e =
          subst (Among (link_costs G B w n m)) (cost_is t)
          (among-map (link_cost G w n) (filter (goes_by G B Any n m) (ties G n)) t
          (among-filter (goes_by G B Any n m) (ties G n) t (subst (λ l. Among l t) (sym ties_are) h) (subst (λ k. goes_by G B Any n k t ≡ true) e (goes n t))))

      pub hops_are : (hops : List Hop) → AreHopsBy w nodes s s.ties hops → AreHops G B w nodes n hops
      hops_are hops by = record {
        sound = λ h has.
            let t = by.sound h has in
            let among = among_from_contains s.ties t.0 t.1 in
            let low = least_below (link_costs G B w n (t.0).to) (cost_by w s t.0) (cost_among (t.0).to t.0 among refl) in
            ((t.0).to, t.2.to, step_by (t.0).to t.0 among refl, subst (λ c. step_cost G B w n (t.0).to ≤ c) (sym t.2.costs) low);
        whole = λ m l.
            let tie = among_from_list_any (goes_by G B Any n m) (ties G n) (both_true (is_open G B n) _ l).1 in
            let one = cost_among m tie.0 (subst (λ l. Among l tie.0) ties_are tie.1) (goes_to n m tie.0 tie.2) in
            let best = among_from-map (link_cost G w n) (filter (goes_by G B Any n m) (ties G n)) (step_cost G B w n m) (least_one (link_costs G B w n m) (cost_by w s tie.0) one) in
            let kept = among_from-filter (goes_by G B Any n m) (ties G n) best.0 best.1 in
            let to : (best.0).to ≡ m = goes_to n m best.0 kept.1 in
            let place = place_from nodes m (are.closed n m here l) in
            let hop = by.whole best.0 place.0 (contains_from_among s.ties best.0 (subst (λ l. Among l best.0) ties_are kept.0)) (place.1 ∙ ap Some (sym to)) in
            (hop.0, hop.1, subst (λ i. IsAt nodes i m) (sym hop.2) place.1, hop.3 ∙ sym (cost_is best.0) ∙ best.2);
      }
