-- A search that is done tells the best walks.
use Rattle.std.proofs.Common.{◌≡◌, ℕ, ◌+◌, ◌≤◌, Bool, true, false, List, [], ◌∷◌, reverse, length, Option, Some, None, inl, inr, refl, sym, ap, subst, ◌∙◌, arith}
use Rattle.std.specs.Prelude.{slice_get, Contains, IsTrue, MatchOption}
use Rattle.std.specs.List.Sorted.{IsStrictlySortedBy}
use Rattle.std.specs.Ordering.{is_le}
use Rattle.std.proofs.lemmas.Bool.{cases_lt}
use Rattle.std.proofs.lemmas.Cmp.{tied_itself}
use Rattle.std.proofs.lemmas.List.{take_all}
use Rattle.std.proofs.lemmas.Option.{slice_get-get_or}
use Rattle.un_defs.specs.declared.port.Node.{Node}
use Rattle.un_defs.specs.Linked.{HaveOwnPorts}
use Rattle.un_defs.specs.Orders.{node_cmp}
use Rattle.un_defs.specs.Reach.{IsReach}
use Rattle.un_defs.proofs.LinkCases.{some_same}
use Rattle.un_defs.proofs.OrderLaws.{node_total}
use Rattle.un_ask.specs.declared.results.Label.{Label}
use Rattle.un_path.specs.declared.answer.PathFound.{PathFound}
use Rattle.un_path.specs.declared.search.Arrival.{Arrival}
use Rattle.un_path.specs.Hops.{IsAt}
use Rattle.un_path.specs.Paths.{IsWalk, IsBestWalk, IsLeastCost, IsToldOf, AreLeastCosts, IsPathFound, ports_of}
use Rattle.un_path.specs.Search.{HasArrival, first_arrival, IsDone, HasBest, AreAllSettled, CanTrace, AreLabelsOf, IsFoundAt}
use Rattle.un_path.specs.Settled.{AreSettled, IsChain}
use Rattle.un_path.proofs.Best.{best, least, least_cost}
use Rattle.un_path.proofs.Labelled.{walk_from, walk_to}
use Rattle.un_path.proofs.Places.{contains_at, place_from, one_place, less_at, node_at}

one_arrival : (arrivals : List (Option Arrival)) (i : ℕ) (a b : Arrival) → HasArrival arrivals i a → HasArrival arrivals i b → a ≡ b
one_arrival arrivals i a b f g = some_same a b (some_same (Some a) (Some b) (sym f ∙ g))

module _ (step : Node → Node → Bool) (cost : Node → Node → ℕ) (nodes : List Node) (rising : IsStrictlySortedBy node_cmp nodes)
    (s : ℕ) (start : Node) (at_start : IsAt nodes s start) (arrivals : List (Option Arrival)) (done : IsDone step cost nodes s arrivals) where
  -- the node before the last of a best walk
  node_before : (i : ℕ) (a : Arrival) → HasArrival arrivals i a → (u : Node) × IsAt nodes a.from u
  node_before i a has = elim (done.way.real i a has) [
    | inl first ↦
        let same : first_arrival s ≡ a = one_arrival arrivals i (first_arrival s) a (subst (λ k. HasArrival arrivals k (first_arrival s)) (sym first.0) done.begun) has in
        (start, subst (λ (b : Arrival). IsAt nodes b.from start) same at_start)
    | inr (b, m, n, has_b, at_m, at_n, leads, low, steps) ↦ (m, at_m)
  ]

  pub can_trace : CanTrace nodes arrivals
  can_trace i a has = (
    node_before i a has,
    λ some. elim (done.way.real i a has) [
      | inl first ↦ absurd (let e = first.1 in omega arith)
      | inr (b, m, n, has_b, at_m, at_n, leads, low, steps) ↦ (b, has_b, steps)
    ],
  )

  not_after : (i j : ℕ) (n m : Node) → i ≤ j → IsAt nodes i n → IsAt nodes j m → is_le (node_cmp n m) ≡ true
  not_after i j n m low at_n at_m = elim (cases_lt i j) [
    | inl less ↦ ap is_le (less_at nodes rising i j n m less at_n at_m)
    | inr high ↦
        let place : i ≡ j = omega arith in
        let same : n ≡ m = some_same n m (sym at_n ∙ ap (slice_get nodes) place ∙ at_m) in
        ap is_le (ap (node_cmp n) (sym same) ∙ tied_itself node_total n)
  ]

  module _ (closed : (n m : Node) → Contains nodes n → IsTrue (step n m) → Contains nodes m) where
    abbrev Has : Node → ℕ → ℕ → Node → Type 0
    Has = HasBest nodes arrivals

    pub settled_by : AreSettled step cost start Has
    settled_by = record {
      first = record { place = s; arrival = first_arrival s; at = at_start; has = done.begun; costs = refl; steps = refl; from = at_start };
      real = λ n c h u b. elim (done.way.real b.place b.arrival b.has) [
        | inl first ↦ inl (some_same n start (sym b.at ∙ ap (slice_get nodes) first.0 ∙ at_start), sym b.steps ∙ first.1)
        | inr (d, m, k, has_d, at_m, at_k, leads, low, steps) ↦
            let one : k ≡ n = some_same k n (sym at_k ∙ b.at) in
            let other : m ≡ u = some_same m u (sym at_m ∙ b.from) in
            let v = node_before b.arrival.from d has_d in
            inr (
              d.cost,
              d.steps,
              v.0,
              record { place = b.arrival.from; arrival = d; at = b.from; has = has_d; costs = refl; steps = refl; from = v.1 },
              subst (λ x. IsTrue (step x n)) other (subst (λ x. IsTrue (step m x)) one leads),
              subst (λ x. d.cost + cost x n ≤ c) other (subst (λ x. d.cost + cost m x ≤ c) one (let e = b.costs in omega (arith, low))),
              sym b.steps ∙ steps,
            )
      ];
      closed = λ n c h u m b leads.
          let there = place_from nodes m (closed n m (contains_at nodes b.place n b.at) leads) in
          elim (done.way.closed b.place there.0 b.arrival n m b.has b.at there.1 leads) [
            | inl (d, has_d, late) ↦
                let v = node_before there.0 d has_d in (
                  d.cost,
                  d.steps,
                  v.0,
                  record { place = there.0; arrival = d; at = there.1; has = has_d; costs = refl; steps = refl; from = v.1 },
                  record {
                    cost = (let e = late.cost in let f = b.costs in omega arith);
                    steps = λ same. (let one : d.cost ≡ b.arrival.cost + cost n m = (let f = b.costs in omega arith) in let e = late.steps one in let g = b.steps in omega arith);
                    before = λ same also.
                        let one : d.cost ≡ b.arrival.cost + cost n m = (let f = b.costs in omega arith) in
                        let two : d.steps ≡ b.arrival.steps + 1 = (let g = b.steps in omega arith) in
                        not_after d.from b.place v.0 n (late.before one two) v.1 b.at;
                  },
                )
            | inr none ↦ absurd none.1
          ];
      one = λ n c h u d k v one two.
          let place : one.place ≡ two.place = one_place nodes rising n one.place two.place one.at two.at in
          let same : one.arrival ≡ two.arrival = one_arrival arrivals two.place one.arrival two.arrival (subst (λ i. HasArrival arrivals i one.arrival) place one.has) two.has in (
            sym one.costs ∙ ap (λ (a : Arrival). a.cost) same ∙ two.costs,
            sym one.steps ∙ ap (λ (a : Arrival). a.steps) same ∙ two.steps,
            some_same u v (sym one.from ∙ ap (λ (a : Arrival). slice_get nodes a.from) same ∙ two.from),
          );
    }

    module _ (reach : IsReach step (start ∷ []) nodes) where
      known : (n : Node) → Contains nodes n → (c h : ℕ) × (u : Node) × Has n c h u
      known n h =
          let w = walk_from step cost start n ((reach.exact n).0 h) in
          let (c, k, u, has, low) = least step cost start Has settled_by n w.0 w.1 in
          (c, k, u, has)

      pub all_settled : AreAllSettled nodes arrivals
      all_settled i inside =
          let n = node_at nodes i inside in
          let (c, h, u, has) = known n.0 (contains_at nodes i n.0 n.1) in
          (has.arrival, subst (λ k. HasArrival arrivals k has.arrival) (one_place nodes rising n.0 has.place i has.at n.1) has.has)

      -- the label of a node is the least cost of a walk to it
      module _ (own : HaveOwnPorts nodes) (labels : List Label) (are : AreLabelsOf nodes arrivals labels (length nodes)) where
        label_least : (n : Node) (l : Label) → Contains nodes n → Contains labels l → l.port ≡ n.port → IsLeastCost step cost start n l.cost
        label_least n l there among port =
            let at_label : slice_get labels among.0 ≡ Some l = slice_get-get_or labels among.0 l among.1 ∙ ap Some among.2 in
            let (m, a, at_m, has_a, its_port, its_cost) = are.costs among.0 l at_label in
            let same : m ≡ n = own m n (contains_at nodes among.0 m at_m) there (sym its_port ∙ port) in
            let w = walk_from step cost start n ((reach.exact n).0 there) in
            let v = node_before among.0 a has_a in
            let here : Has n l.cost a.steps v.0 = record { place = among.0; arrival = a; at = at_m ∙ ap Some same; has = has_a; costs = sym its_cost; steps = refl; from = v.1 } in
            least_cost step cost start Has settled_by n l.cost a.steps v.0 here

        pub labels_least : AreLeastCosts step cost start nodes labels
        labels_least = record { ports = are.ports ∙ ap ports_of (take_all (length nodes) nodes (omega arith)); least = label_least }

      -- what is found at a node is its best walk
      found_by : (to : Node) (found : PathFound) (c : Option ℕ)
          → MatchOption c ((found.nodes ≡ []) × (Contains nodes to → ⊥))
          (λ c. (h : ℕ) × (u : Node) × (more : List Node) × Has to c h u × IsChain Has to more × (found.nodes ≡ ports_of (reverse (to ∷ more))))
          → MatchOption c ((found.nodes ≡ []) × ((ns : List Node) → IsWalk step start to ns → ⊥)) (λ c. (ns : List Node) × IsBestWalk step cost start to ns × IsToldOf cost found c ns)
      found_by to found None h = (h.0, λ ns w. h.1 ((reach.exact to).1 (walk_to step cost start to ns w)))
      found_by to found (Some c) (h, u, more, has, chain, ports) =
          let b = best step cost start Has settled_by to more c h u has chain in
          (reverse (to ∷ more), b.0, record { costs = b.1; ports = ports })

      pub path_found : (own : HaveOwnPorts nodes) (to : Node) (certificate : Bool) (labels : List Label) (found : PathFound) → IsFoundAt nodes arrivals to found → found.labels ≡ labels
          → (certificate ≡ true → AreLabelsOf nodes arrivals labels (length nodes)) → (certificate ≡ false → labels ≡ []) → IsPathFound step cost start to certificate nodes found
      path_found own to certificate labels found at same full bare = record {
        path = found_by to found found.cost at.path;
        labels = λ e. subst (AreLeastCosts step cost start nodes) (sym same) (labels_least own labels (full e));
        bare = λ e. same ∙ bare e;
      }
