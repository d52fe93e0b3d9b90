-- How a certificate is looked at hop by hop.
use Rattle.std.proofs.Common.{◌≡◌, ◌↔◌, ℕ, ◌+◌, ◌≤◌, Bool, true, false, List, [], ◌∷◌, ◌++◌, Option, Some, None, inl, inr, refl, sym, ap, subst, ◌∙◌, arith, true≢false}
use Rattle.std.specs.Prelude.{slice_index, IsTrue}
use Rattle.std.specs.Option.{option_map_or}
use Rattle.std.proofs.lemmas.List.Elements.{Contains-append_left, Contains-push, Contains-push_cases}
use Rattle.un_defs.specs.declared.port.Port.{Port}
use Rattle.un_defs.specs.declared.port.Node.{Node}
use Rattle.un_defs.specs.declared.walk.Barriers.{Barriers}
use Rattle.un_defs.specs.declared.walk.Mode.TheVariants.{Any}
use Rattle.un_defs.specs.Ground.{Ground}
use Rattle.un_defs.specs.Orders.{same_port}
use Rattle.un_defs.specs.Reach.{Follow, last_node, leads}
use Rattle.un_defs.proofs.LinkCases.{some_same}
use Rattle.un_defs.proofs.Unique.{port_same, port_itself}
use Rattle.un_walk.specs.declared.seen.Seen.{Seen}
use Rattle.un_ask.specs.declared.results.Label.{Label}
use Rattle.un_ask.specs.declared.typed.Weight.{Weight}
use Rattle.un_path.specs.declared.hops.Hop.{Hop}
use Rattle.un_path.specs.Checking.{HaveCosts, KeepsHops, is_to, IsCheapest, Goes, GoesOn}
use Rattle.un_path.specs.Costs.{step_cost, cost_after}
use Rattle.un_path.specs.Hops.{IsAt, AreReached, AreHops}
use Rattle.un_path.specs.Paths.{ports_of}
use Rattle.un_path.specs.Valid.{label_at, KeepsSteps}
use Rattle.un_path.proofs.Places.{contains_at}

-- ---- the cheapest hop to a port, with one hop more

module _ (nodes : List Node) (q : Port) (hops : List Hop) (h : Hop) where
  pub cheapest_skips : (best : Option Hop) → IsCheapest nodes q hops best → is_to nodes q h ≡ false → IsCheapest nodes q (hops ++ h ∷ []) best
  cheapest_skips None none e = λ k has. elim (Contains-push_cases hops h k has) [
    | inl before ↦ none k before
    | inr same ↦ subst (λ x. is_to nodes q x ≡ false) same e
  ]
  cheapest_skips (Some b) some e = (
    Contains-append_left hops (h ∷ []) b some.0,
    some.1,
    λ k has to. elim (Contains-push_cases hops h k has) [
      | inl before ↦ some.2 k before to
      | inr same ↦ absurd (true≢false (sym to ∙ ap (is_to nodes q) (sym same) ∙ e))
    ],
  )

  pub cheapest_stays : (b : Hop) → IsCheapest nodes q hops (Some b) → b.cost ≤ h.cost → IsCheapest nodes q (hops ++ h ∷ []) (Some b)
  cheapest_stays b some low = (
    Contains-append_left hops (h ∷ []) b some.0,
    some.1,
    λ k has to. elim (Contains-push_cases hops h k has) [
      | inl before ↦ some.2 k before to
      | inr same ↦ subst (λ (x : Hop). b.cost ≤ x.cost) same low
    ],
  )

  pub cheapest_first : IsCheapest nodes q hops None → is_to nodes q h ≡ true → IsCheapest nodes q (hops ++ h ∷ []) (Some h)
  cheapest_first none e = (
    Contains-push hops h,
    e,
    λ k has to. elim (Contains-push_cases hops h k has) [
      | inl before ↦ absurd (true≢false (sym to ∙ none k before))
      | inr same ↦ subst (λ (x : Hop). h.cost ≤ x.cost) same (omega arith)
    ],
  )

  pub cheapest_falls : (b : Hop) → IsCheapest nodes q hops (Some b) → h.cost ≤ b.cost → is_to nodes q h ≡ true → IsCheapest nodes q (hops ++ h ∷ []) (Some h)
  cheapest_falls b some low e = (
    Contains-push hops h,
    e,
    λ k has to. elim (Contains-push_cases hops h k has) [
      | inl before ↦ (let less = some.2 k before to in omega arith)
      | inr same ↦ subst (λ (x : Hop). h.cost ≤ x.cost) same (omega arith)
    ],
  )

from_is_to : (nodes : List Node) (q : Port) (h : Hop) (n : Node) → IsAt nodes h.to n → is_to nodes q h ≡ true → n.port ≡ q
from_is_to nodes q h n at e = port_same n.port q (sym (ap (λ o. option_map_or (λ (m : Node). same_port m.port q) o false) at) ∙ e)

is_to_by : (nodes : List Node) (q : Port) (h : Hop) (n : Node) → IsAt nodes h.to n → n.port ≡ q → is_to nodes q h ≡ true
is_to_by nodes q h n at e = ap (λ o. option_map_or (λ (m : Node). same_port m.port q) o false) at ∙ subst (λ p. same_port n.port p ≡ true) e (port_itself n.port)

-- ---- steps over ports

module _ (step : Node → Node → Bool) (cost : Node → Node → ℕ) where
  -- over no ports they go nowhere
  pub goes_nowhere : (n m : Node) (c : ℕ) → Goes step cost n [] m c ↔ ((m ≡ n) × (c ≡ 0))
  goes_nowhere n m c = (
    λ g. go g.nodes g.over g.ends g.costs,
    λ (same, none). record { nodes = []; follows = tt; over = refl; ends = sym same; costs = sym none },
  )
    where
      go : (ms : List Node) → ports_of ms ≡ [] → last_node n ms ≡ m → cost_after cost n ms ≡ c → (m ≡ n) × (c ≡ 0)
      go [] over ends costs = (sym ends, sym costs)
      go (x ∷ xs) over ends costs = absurd (cc)

  pub goes_first : (n m : Node) (q : Port) (qs : List Port) (c : ℕ) → Goes step cost n (q ∷ qs) m c → (x : Node) × IsTrue (step n x) × (x.port ≡ q) × ((d : ℕ) × Goes step cost x qs m d × (c ≡ cost n x + d))
  goes_first n m q qs c g = go g.nodes g.follows g.over g.ends g.costs
    where
      heads : (p : Port) (ps : List Port) → p ∷ ps ≡ q ∷ qs → p ≡ q
      heads p ps e = cc

      tails : (p : Port) (ps : List Port) → p ∷ ps ≡ q ∷ qs → ps ≡ qs
      tails p ps e = cc

      go : (ms : List Node) → Follow step n ms → ports_of ms ≡ q ∷ qs → last_node n ms ≡ m → cost_after cost n ms ≡ c
          → (x : Node) × IsTrue (step n x) × (x.port ≡ q) × ((d : ℕ) × Goes step cost x qs m d × (c ≡ cost n x + d))
      go [] follows over ends costs = absurd (cc)
      go (x ∷ xs) follows over ends costs = (
        x,
        follows.0,
        heads x.port (ports_of xs) over,
        (
          cost_after cost x xs,
          record { nodes = xs; follows = follows.1; over = tails x.port (ports_of xs) over; ends = ends; costs = refl },
          sym costs,
        ),
      )

  pub goes_step : (n x m : Node) (q : Port) (qs : List Port) (d : ℕ) → IsTrue (step n x) → x.port ≡ q → Goes step cost x qs m d → Goes step cost n (q ∷ qs) m (cost n x + d)
  goes_step n x m q qs d leads port g = record {
    nodes = x ∷ g.nodes;
    follows = (leads, g.follows);
    over = λ i. port i ∷ g.over i;
    ends = g.ends;
    costs = ap (λ k. cost n x + k) g.costs;
  }

  pub goes_on : (from here next : Node) (all qs : List Port) (q : Port) (spent price : ℕ) → GoesOn step cost from all here (q ∷ qs) spent
      → ((m : Node) (c : ℕ) → Goes step cost here (q ∷ qs) m c ↔ ((d : ℕ) × Goes step cost next qs m d × (c ≡ price + d))) → GoesOn step cost from all next qs (spent + price)
  goes_on from here next all qs q spent price on one m c = (
    λ g. (let (d, goes, is) = (on m c).0 g in let (e, more, also) = (one m d).0 goes in (e, more, omega (arith, is, also))),
    λ (e, more, is). (on m c).1 (price + e, (one m (price + e)).1 (e, more, refl), omega (arith, is)),
  )

-- ---- over the ground

module _ (G : Ground) (B : Barriers) (w : Weight) (seen : List Seen) (nodes : List Node) (are : AreReached G B seen nodes)
    (n : Node) (i : ℕ) (at : IsAt nodes i n) (hops : List Hop) (hops_are : AreHops G B w nodes n hops) where
  abbrev step : Node → Node → Bool
  step = leads G B Any

  abbrev cost : Node → Node → ℕ
  cost = step_cost G B w

  -- where no hop leads to the port, no step does
  pub goes_never : (q : Port) (qs : List Port) → IsCheapest nodes q hops None → (m : Node) (c : ℕ) → Goes step cost n (q ∷ qs) m c → ⊥
  goes_never q qs none m c g =
      let (x, leads, port, rest) = goes_first step cost n m q qs c g in
      let hop = hops_are.whole x leads in
      absurd (true≢false (sym (is_to_by nodes q hop.0 x hop.2 port) ∙ none hop.0 hop.1))

  -- else the next node is the one to which the cheapest leads, and its step costs what the hop does
  module _ (q : Port) (qs : List Port) (b : Hop) (best : IsCheapest nodes q hops (Some b)) (x : Node) (at_x : IsAt nodes b.to x) where
    leads_there : IsTrue (step n x)
    leads_there = let (y, at_y, leads, low) = hops_are.sound b best.0 in subst (λ k. IsTrue (step n k)) (some_same y x (sym at_y ∙ at_x)) leads

    port_there : x.port ≡ q
    port_there = from_is_to nodes q b x at_x best.1

    price : b.cost ≡ cost n x
    price =
        let (y, at_y, leads, low) = hops_are.sound b best.0 in
        let same : y ≡ x = some_same y x (sym at_y ∙ at_x) in
        let above : cost n x ≤ b.cost = subst (λ k. cost n k ≤ b.cost) same low in
        let hop = hops_are.whole x leads_there in
        let below : b.cost ≤ (hop.0).cost = best.2 hop.0 hop.1 (is_to_by nodes q hop.0 x hop.2 port_there) in
        let is : (hop.0).cost ≡ cost n x = hop.3 in
        omega (arith, above, below, is)

    pub goes_by_cheapest : (m : Node) (c : ℕ) → Goes step cost n (q ∷ qs) m c ↔ ((d : ℕ) × Goes step cost x qs m d × (c ≡ b.cost + d))
    goes_by_cheapest m c = (
      λ g.
          let (y, leads, port, (d, goes, is)) = goes_first step cost n m q qs c g in
          let same : y ≡ x = are.own_ports y x (are.closed n y (contains_at nodes i n at) leads) (contains_at nodes b.to x at_x) (port ∙ sym port_there) in
          (d, subst (λ k. Goes step cost k qs m d) same goes, is ∙ ap (λ k. cost n k + d) same ∙ ap (λ k. k + d) (sym price)),
      λ (d, goes, is). subst (Goes step cost n (q ∷ qs) m) (ap (λ k. k + d) (sym price) ∙ sym is) (goes_step step cost n x m q qs d leads_there port_there goes),
    )

  -- ---- the steps from one node keep to the labels where its hops keep to the costs

  module _ (labels : List Label) (costs : List ℕ) (have : HaveCosts nodes labels costs) where
    pub keeps_from : KeepsHops costs (slice_index costs i) hops → (m : Node) (a b : ℕ) → label_at labels n.port ≡ Some a → label_at labels m.port ≡ Some b → IsTrue (step n m) → b ≤ a + cost n m
    keeps_from keeps m a b at_a at_b leads =
        let hop = hops_are.whole m leads in
        let here : a ≡ slice_index costs i = some_same a (slice_index costs i) (sym at_a ∙ have i n at) in
        let there : b ≡ slice_index costs (hop.0).to = some_same b (slice_index costs (hop.0).to) (sym at_b ∙ have (hop.0).to m hop.2) in
        let low = keeps hop.0 hop.1 in
        let is : (hop.0).cost ≡ cost n m = hop.3 in
        omega (arith, here, there, low, is)

    pub keeps_hops_by : KeepsSteps step cost nodes labels → KeepsHops costs (slice_index costs i) hops
    keeps_hops_by keeps h has =
        let (m, at_m, leads, low) = hops_are.sound h has in
        let most = keeps n m (slice_index costs i) (slice_index costs h.to) (contains_at nodes i n at) (contains_at nodes h.to m at_m) (have i n at) (have h.to m at_m) leads in
        omega (arith, most, low)
