-- Labels by port, and what they say of walks.
use Rattle.std.proofs.Common.{◌≡◌, ℕ, ◌+◌, ◌≤◌, Bool, true, false, cond, List, [], ◌∷◌, Some, inl, inr, refl, sym, ap, subst, ◌∙◌, arith, true≢false, ◌++◌, length}
use Rattle.std.specs.Prelude.{Contains, IsTrue, find}
use Rattle.std.specs.Option.{option_map}
use Rattle.un_defs.specs.declared.port.Port.{Port}
use Rattle.un_defs.specs.declared.port.Node.{Node}
use Rattle.un_defs.specs.Orders.{same_port}
use Rattle.un_defs.specs.Reach.{Follow, last_node, IsReach, Walk}
use Rattle.un_defs.proofs.LinkCases.{some_same}
use Rattle.un_defs.proofs.Unique.{port_same, port_itself}
use Rattle.un_defs.proofs.Members.{contains_from_among, among_from_contains, among-map}
use Rattle.un_defs.proofs.Rising.{Among}
use Rattle.un_defs.proofs.Walking.{walk_on, walk_from_start}
use Rattle.un_ask.specs.declared.results.Label.{Label}
use Rattle.un_ask.specs.declared.typed.CheckAsk.{CheckAsk}
use Rattle.un_path.specs.Costs.{cost_after, walk_cost}
use Rattle.un_path.specs.Paths.{IsWalk, ports_of, label_ports}
use Rattle.un_path.specs.Valid.{label_at, KeepsSteps, IsValid, ShowsLeast}

-- ---- where each step keeps to the labels, each walk does

module _ (step : Node → Node → Bool) (cost : Node → Node → ℕ) (Has : Node → ℕ → Type 0)
    (on : (n m : Node) (a : ℕ) → Has n a → IsTrue (step n m) → (b : ℕ) × Has m b × (b ≤ a + cost n m)) where
  pub labels_below : (n : Node) (ms : List Node) (a : ℕ) → Has n a → Follow step n ms → (b : ℕ) × Has (last_node n ms) b × (b ≤ a + cost_after cost n ms)
  labels_below n [] a h f = (a, h, omega arith)
  labels_below n (m ∷ ms) a h f =
      let next = on n m a h f.0 in
      let rest = labels_below m ms next.0 next.1 f.1 in
      (rest.0, rest.1, omega (arith, next.2, rest.2))

-- ---- labels by port

-- a port among those of the labels has a label
pub has_label : (labels : List Label) (q : Port) → Among (label_ports labels) q → (c : ℕ) × (label_at labels q ≡ Some c)
has_label [] q h = absurd h
has_label (l ∷ ls) q h =
    elim (same_port l.port q) as (λ b. same_port l.port q ≡ b → (c : ℕ) × (option_map (λ (k : Label). k.cost) (cond b (Some l) (find (λ k. same_port k.port q) ls)) ≡ Some c)) [
      | true ↦ λ _. (l.cost, refl)
      | false ↦ λ f. elim h [
        | inl is ↦ absurd (true≢false (sym (port_itself q) ∙ sym (ap (λ p. same_port p q) is) ∙ f))
        | inr more ↦ has_label ls q more
      ]
    ] refl

-- and it is that of a label with the port
pub label_from : (labels : List Label) (q : Port) (c : ℕ) → label_at labels q ≡ Some c → (l : Label) × Among labels l × (l.port ≡ q) × (l.cost ≡ c)
label_from [] q c e = absurd (cc)
label_from (l ∷ ls) q c e =
    elim (same_port l.port q) as (λ b. same_port l.port q ≡ b → option_map (λ (k : Label). k.cost) (cond b (Some l) (find (λ k. same_port k.port q) ls)) ≡ Some c
    → (k : Label) × Among (l ∷ ls) k × (k.port ≡ q) × (k.cost ≡ c)) [
      | true ↦ λ t e. (l, inl refl, port_same l.port q t, some_same l.cost c e)
      | false ↦ λ _ e. let rest = label_from ls q c e in (rest.0, inr rest.1, rest.2, rest.3)
    ] refl e

-- ---- walks between two nodes

module _ (step : Node → Node → Bool) (cost : Node → Node → ℕ) where
  pub walk_from : (from to : Node) → Walk step (from ∷ []) to → (nodes : List Node) × IsWalk step from to nodes
  walk_from from to w =
      let first : w.first ≡ from = only from w.first (among_from_contains (from ∷ []) w.first w.begins) in (
        from ∷ w.rest,
        record {
          rest = w.rest;
          begins = refl;
          follows = subst (λ n. Follow step n w.rest) first w.follows;
          ends = ap (λ n. last_node n w.rest) (sym first) ∙ w.ends;
        },
      )
    where
      only : (n m : Node) → Among (n ∷ []) m → m ≡ n
      only n m h = elim h [ inl e ↦ sym e | inr g ↦ absurd g ]

  pub walk_to : (from to : Node) (nodes : List Node) → IsWalk step from to nodes → Walk step (from ∷ []) to
  walk_to from to nodes w = record { first = from; rest = w.rest; begins = contains_from_among (from ∷ []) from (inl refl); follows = w.follows; ends = w.ends }

  cost_on : (n : Node) (ms : List Node) (m : Node) → cost_after cost n (ms ++ m ∷ []) ≡ cost_after cost n ms + cost (last_node n ms) m
  cost_on n [] m = omega arith
  cost_on n (k ∷ ks) m = let rest = cost_on k ks m in omega arith

  follow_on : (n : Node) (ms : List Node) (m : Node) → Follow step n ms → step (last_node n ms) m ≡ true → Follow step n (ms ++ m ∷ [])
  follow_on n [] m h e = (e, tt)
  follow_on n (k ∷ ks) m h e = (h.0, follow_on k ks m h.1 e)

  last_on : (n : Node) (ms : List Node) (m : Node) → last_node n (ms ++ m ∷ []) ≡ m
  last_on n [] m = refl
  last_on n (k ∷ ks) m = last_on k ks m

  -- a walk with one step more
  pub one_further : (from to m : Node) (nodes : List Node) → IsWalk step from to nodes → step to m ≡ true → IsWalk step from m (nodes ++ m ∷ [])
  one_further from to m nodes w e = record {
    rest = w.rest ++ m ∷ [];
    begins = ap (λ l. l ++ m ∷ []) w.begins;
    follows = follow_on from w.rest m w.follows (ap (λ k. step k m) w.ends ∙ e);
    ends = last_on from w.rest m;
  }

  pub further_cost : (from to m : Node) (nodes : List Node) → IsWalk step from to nodes → walk_cost cost (nodes ++ m ∷ []) ≡ walk_cost cost nodes + cost to m
  further_cost from to m nodes w =
      ap (λ l. walk_cost cost (l ++ m ∷ [])) w.begins ∙ cost_on from w.rest m
      ∙ (λ i. walk_cost cost (sym w.begins i) + cost (w.ends i) m)

-- ---- certificates

module _ (step : Node → Node → Bool) (cost : Node → Node → ℕ) (from : Node) (reached : List Node) (reach : IsReach step (from ∷ []) reached)
    (labels : List Label) (ports : label_ports labels ≡ ports_of reached) where
  pub label_of : (n : Node) → Contains reached n → (c : ℕ) × (label_at labels n.port ≡ Some c)
  label_of n h = has_label labels n.port (subst (λ l. Among l n.port) (sym ports) (among-map (λ (m : Node). m.port) reached n (among_from_contains reached n h)))

  pub step_reached : (n m : Node) → Contains reached n → step n m ≡ true → Contains reached m
  step_reached n m h e = (reach.exact m).1 (walk_on step (from ∷ []) n m ((reach.exact n).0 h) e)

  pub from_reached : Contains reached from
  from_reached = (reach.exact from).1 (walk_from_start step (from ∷ []) from (inl refl))

  Has : Node → ℕ → Type 0
  Has n a = Contains reached n × (label_at labels n.port ≡ Some a)

  on : KeepsSteps step cost reached labels → (n m : Node) (a : ℕ) → Has n a → IsTrue (step n m) → (b : ℕ) × Has m b × (b ≤ a + cost n m)
  unfolding Has
  on keeps n m a h e =
      let there = step_reached n m h.0 e in
      let b = label_of m there in
      (b.0, (there, b.1), keeps n m a b.0 h.0 there h.1 b.1 e)

  -- no walk costs less than the label of its last node
  pub label_least : KeepsSteps step cost reached labels → label_at labels from.port ≡ Some 0 → (to : Node) (c : ℕ) → label_at labels to.port ≡ Some c
      → (nodes : List Node) → IsWalk step from to nodes → c ≤ walk_cost cost nodes
  unfolding Has
  label_least keeps start to c at nodes w =
      let b = labels_below step cost Has (on keeps) from w.rest 0 (from_reached, start) w.follows in
      let same : c ≡ b.0 = some_same c b.0 (sym at ∙ ap (λ (n : Node). label_at labels n.port) (sym w.ends) ∙ b.1.1) in
      let nodes_cost : walk_cost cost nodes ≡ cost_after cost from w.rest = ap (walk_cost cost) w.begins in
      omega (arith, b.2)

pub shows_least : (step : Node → Node → Bool) (cost : Node → Node → ℕ) (reached : List Node) (ask : CheckAsk) → IsReach step (ask.from ∷ []) reached
    → IsValid step cost reached ask → ShowsLeast step cost ask.from ask.to ask.nodes
shows_least step cost reached ask reach valid = record {
  walk = λ some. elim valid.walk [
    | inl none ↦ absurd (some none.1)
    | inr labelled ↦ (labelled.nodes, labelled.walk, labelled.ports, label_least step cost ask.from reached reach ask.labels valid.ports valid.steps valid.start ask.to (walk_cost cost labelled.nodes) labelled.costs)
  ];
  none = λ bare nodes w. elim valid.walk [
    | inl none ↦ none.0 ((reach.exact ask.to).1 (walk_to step cost ask.from ask.to nodes w))
    | inr labelled ↦
        let shown : [] ≡ ports_of (ask.from ∷ labelled.walk.rest) = sym bare ∙ labelled.ports ∙ ap ports_of labelled.walk.begins in
        absurd (omega (arith, ap length shown))
  ];
}
