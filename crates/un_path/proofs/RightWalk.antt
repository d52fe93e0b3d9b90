-- When the ports of a certificate are those of a walk with its label's cost.
use Rattle.std.proofs.Common.{◌≡◌, ◌<◌, ℕ, Bool, List, [], ◌∷◌, map, length, get_or, arith, Some, None, inl, inr, refl, sym, ap, subst, ◌∙◌}
use Rattle.std.specs.Prelude.{slice_get, slice_index, Contains}
use Rattle.std.specs.Option.{option_map}
use Rattle.std.specs.List.Sorted.{IsStrictlySortedBy}
use Rattle.std.proofs.lemmas.List.{length-map}
use Rattle.std.proofs.lemmas.Option.{slice_get-get_or, get_or_from_slice_get, slice_get_within, slice_get-map}
use Rattle.un_defs.specs.declared.port.Port.{Port}
use Rattle.un_defs.specs.declared.port.Node.{Node}
use Rattle.un_defs.specs.Orders.{node_cmp}
use Rattle.un_defs.specs.Linked.{HaveOwnPorts}
use Rattle.un_defs.proofs.LinkCases.{some_same}
use Rattle.un_defs.proofs.Members.{contains_from_among, among_from_contains, among-map}
use Rattle.un_defs.proofs.Rising.{Among}
use Rattle.un_ask.specs.declared.results.Label.{Label}
use Rattle.un_ask.specs.declared.typed.CheckAsk.{CheckAsk}
use Rattle.un_path.specs.declared.walks.WalkEnd.{WalkEnd}
use Rattle.un_path.specs.Checking.{HaveCosts, Goes, IsEndOf, EndsAt, HasRightWalk}
use Rattle.un_path.specs.Costs.{walk_cost}
use Rattle.un_path.specs.Paths.{ports_of, label_ports}
use Rattle.un_path.specs.Valid.{label_at, KeepsSteps, IsLabelledWalk, IsValid}
use Rattle.un_path.proofs.Places.{contains_at, one_place, node_at}
use Rattle.un_path.proofs.Labelled.{has_label, label_from}

-- what lists of ports that are one begin with, and what comes after that
pub heads : (p q : Port) (ps qs : List Port) → p ∷ ps ≡ q ∷ qs → p ≡ q
heads p q ps qs e = cc

pub tails : (p q : Port) (ps qs : List Port) → p ∷ ps ≡ q ∷ qs → ps ≡ qs
tails p q ps qs e = cc

module _ (step : Node → Node → Bool) (cost : Node → Node → ℕ) (nodes : List Node) (ask : CheckAsk) where
  labelled_ports : (l : IsLabelledWalk step cost ask.from ask.to ask.nodes ask.labels) → ask.nodes ≡ ask.from.port ∷ ports_of l.walk.rest
  labelled_ports l = l.ports ∙ ap ports_of l.walk.begins

  -- no ports are right exactly where the last node is not reached
  pub none_right : ask.nodes ≡ [] → (Contains nodes ask.to → ⊥) → HasRightWalk step cost nodes ask
  none_right bare none = inl (none, bare)

  pub none_wrong : ask.nodes ≡ [] → Contains nodes ask.to → HasRightWalk step cost nodes ask → ⊥
  none_wrong bare there right = elim right [
    | inl none ↦ none.0 there
    | inr l ↦ (let clash : [] ≡ ask.from.port ∷ ports_of l.walk.rest = sym bare ∙ labelled_ports l in absurd (cc))
  ]

  module _ (first : Port) (rest : List Port) (shown : ask.nodes ≡ first ∷ rest) where
    -- they are a walk's
    labelled : HasRightWalk step cost nodes ask → IsLabelledWalk step cost ask.from ask.to ask.nodes ask.labels
    labelled right = elim right [
      | inl none ↦ (let clash : [] ≡ first ∷ rest = sym none.1 ∙ shown in absurd (cc))
      | inr l ↦ l
    ]

    pub begins : HasRightWalk step cost nodes ask → first ≡ ask.from.port
    begins right = let l = labelled right in heads first ask.from.port rest (ports_of l.walk.rest) (sym shown ∙ labelled_ports l)

    goes : (l : IsLabelledWalk step cost ask.from ask.to ask.nodes ask.labels) → Goes step cost ask.from rest ask.to (walk_cost cost l.nodes)
    goes l = record {
      nodes = l.walk.rest;
      follows = l.walk.follows;
      over = sym (tails first ask.from.port rest (ports_of l.walk.rest) (sym shown ∙ labelled_ports l));
      ends = l.walk.ends;
      costs = ap (walk_cost cost) (sym l.walk.begins);
    }

    pub endless_wrong : IsEndOf step cost nodes ask.from rest None → HasRightWalk step cost nodes ask → ⊥
    endless_wrong never right = let l = labelled right in never ask.to (walk_cost cost l.nodes) (goes l)

    module _ (costs : List ℕ) (have : HaveCosts nodes ask.labels costs) (e : WalkEnd) (ends : IsEndOf step cost nodes ask.from rest (Some e)) where
      pub end_right : first ≡ ask.from.port → EndsAt nodes costs e ask.to → HasRightWalk step cost nodes ask
      end_right from at =
          let g = (ends ask.to e.cost).1 (at.0, refl) in
          inr (record {
            nodes = ask.from ∷ g.nodes;
            walk = record { rest = g.nodes; begins = refl; follows = g.follows; ends = g.ends };
            ports = shown ∙ (λ i. from i ∷ sym g.over i);
            costs = have e.place ask.to at.0 ∙ ap Some (at.1 ∙ sym g.costs);
          })

      pub right_end : HasRightWalk step cost nodes ask → EndsAt nodes costs e ask.to
      right_end right =
          let l = labelled right in
          let at = (ends ask.to (walk_cost cost l.nodes)).0 (goes l) in
          (at.0, some_same (slice_index costs e.place) e.cost (sym (have e.place ask.to at.0) ∙ l.costs ∙ ap Some at.1))

-- ---- costs by place

module _ (nodes : List Node) (rising : IsStrictlySortedBy node_cmp nodes) (own : HaveOwnPorts nodes) (labels : List Label) (ports : label_ports labels ≡ ports_of nodes) where
  pub have_costs : HaveCosts nodes labels (map (λ l. l.cost) labels)
  have_costs i n at =
      let among : Among (label_ports labels) n.port = subst (λ l. Among l n.port) (sym ports) (among-map (λ (m : Node). m.port) nodes n (among_from_contains nodes n (contains_at nodes i n at))) in
      let c = has_label labels n.port among in
      let l = label_from labels n.port c.0 c.1 in
      let place = contains_from_among labels l.0 l.1 in
      let at_label : slice_get labels place.0 ≡ Some l.0 = slice_get-get_or labels place.0 l.0 place.1 ∙ ap Some place.2 in
      let port_there : slice_get (ports_of nodes) place.0 ≡ Some (l.0).port =
      ap (λ k. slice_get k place.0) (sym ports) ∙ slice_get-map (λ (k : Label). k.port) labels place.0 ∙ ap (option_map (λ (k : Label). k.port)) at_label in
      let inside : place.0 < length nodes = omega (arith, slice_get_within (ports_of nodes) place.0 (l.0).port port_there, length-map nodes (λ (m : Node). m.port)) in
      let m = node_at nodes place.0 inside in
      let its_port : (m.0).port ≡ (l.0).port = some_same (m.0).port (l.0).port (sym (slice_get-map (λ (k : Node). k.port) nodes place.0 ∙ ap (option_map (λ (k : Node). k.port)) m.1) ∙ port_there) in
      let same : m.0 ≡ n = own m.0 n (contains_at nodes place.0 m.0 m.1) (contains_at nodes i n at) (its_port ∙ l.2) in
      let here : place.0 ≡ i = one_place nodes rising n place.0 i (m.1 ∙ ap Some same) at in
      let cost_at : slice_get (map (λ (k : Label). k.cost) labels) i ≡ Some (l.0).cost =
      subst (λ p. slice_get (map (λ (k : Label). k.cost) labels) p ≡ Some (l.0).cost) here (slice_get-map (λ (k : Label). k.cost) labels place.0 ∙ ap (option_map (λ (k : Label). k.cost)) at_label) in
      c.1 ∙ ap Some (sym l.3 ∙ sym (get_or_from_slice_get (map (λ (k : Label). k.cost) labels) i (l.0).cost 0 cost_at))

-- the parts of a valid certificate
pub valid_by : (step : Node → Node → Bool) (cost : Node → Node → ℕ) (nodes : List Node) (ask : CheckAsk) → label_ports ask.labels ≡ ports_of nodes → label_at ask.labels ask.from.port ≡ Some 0
    → KeepsSteps step cost nodes ask.labels → HasRightWalk step cost nodes ask → IsValid step cost nodes ask
valid_by step cost nodes ask ports start steps walk = record { ports = ports; start = start; steps = steps; walk = walk }

-- a read of a cost, whatever a read past the end would give
pub cost_read : (costs : List ℕ) (i x : ℕ) → i < length costs → x ≡ get_or costs i x → x ≡ slice_index costs i
cost_read costs i x inside e = e ∙ sym (get_or_from_slice_get costs i (get_or costs i x) 0 (slice_get-get_or costs i x inside))

pub count_costs : (nodes : List Node) (labels : List Label) → label_ports labels ≡ ports_of nodes → length (map (λ l. l.cost) labels) ≡ length nodes
count_costs nodes labels ports =
    length-map labels (λ (l : Label). l.cost) ∙ sym (length-map labels (λ (l : Label). l.port)) ∙ ap length ports ∙ length-map nodes (λ (n : Node). n.port)
