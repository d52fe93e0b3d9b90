-- The labels and the walk that are found for a path are a valid certificate.
use Rattle.std.proofs.Common.{◌≡◌, ℕ, ◌≤◌, Bool, true, List, [], ◌∷◌, ◌++◌, Option, Some, None, ◌⊎◌, inl, inr, refl, sym, ap, subst, ◌∙◌, arith}
use Rattle.std.specs.Prelude.{Contains, MatchOption}
use Rattle.std.proofs.lemmas.Map.Keys.{le_from_is_le}
use Rattle.un_defs.specs.declared.port.Port.{Port}
use Rattle.un_defs.specs.declared.port.Node.{Node}
use Rattle.un_defs.specs.Reach.{IsReach}
use Rattle.un_defs.proofs.Members.{contains_from_among}
use Rattle.un_ask.specs.declared.results.Label.{Label}
use Rattle.un_ask.specs.declared.typed.CheckAsk.{CheckAsk}
use Rattle.un_path.specs.declared.answer.PathFound.{PathFound}
use Rattle.un_path.specs.Costs.{walk_cost}
use Rattle.un_path.specs.Paths.{IsWalk, IsBestWalk, IsLeastCost, IsToldOf, AreLeastCosts, IsPathFound}
use Rattle.un_path.specs.Valid.{label_at, KeepsSteps, IsLabelledWalk, IsValid}
use Rattle.un_path.proofs.Ordered.{first_le}
use Rattle.un_path.proofs.Labelled.{label_from, label_of, walk_from, walk_to, one_further, further_cost, from_reached}

module _ (step : Node → Node → Bool) (cost : Node → Node → ℕ) (from : Node) (reached : List Node) (reach : IsReach step (from ∷ []) reached)
    (labels : List Label) (are : AreLeastCosts step cost from reached labels) where
  least_at : (n : Node) (c : ℕ) → Contains reached n → label_at labels n.port ≡ Some c → IsLeastCost step cost from n c
  least_at n c h at =
      let l = label_from labels n.port c at in
      subst (IsLeastCost step cost from n) l.3 (are.least n l.0 h (contains_from_among labels l.0 l.1) l.2)

  alone : IsWalk step from from (from ∷ [])
  alone = record { rest = []; begins = refl; follows = tt; ends = refl }

  start : label_at labels from.port ≡ Some 0
  start =
      let here = from_reached step cost from reached reach labels are.ports in
      let c = label_of step cost from reached reach labels are.ports from here in
      let low = (least_at from c.0 here c.1).least (from ∷ []) alone in
      let none : c.0 ≡ 0 = omega (arith, low) in
      c.1 ∙ ap Some none

  keeps : KeepsSteps step cost reached labels
  keeps n m a b h g at_n at_m e =
      let one = least_at n a h at_n in
      let low = (least_at m b g at_m).least (one.nodes ++ m ∷ []) (one_further step cost from n m one.nodes one.walk e) in
      omega (arith, low, further_cost step cost from n m one.nodes one.walk, one.costs)

  labelled : (to : Node) (found : PathFound) (c : ℕ) (nodes : List Node) → IsBestWalk step cost from to nodes → IsToldOf cost found c nodes
      → IsLabelledWalk step cost from to found.nodes labels
  labelled to found c nodes best told =
      let there : Contains reached to = (reach.exact to).1 (walk_to step cost from to nodes best.walk) in
      let label = label_of step cost from reached reach labels are.ports to there in
      let least = least_at to label.0 there label.1 in
      let low = least.least nodes best.walk in
      let high : walk_cost cost nodes ≤ walk_cost cost least.nodes = le_from_is_le (walk_cost cost nodes) (walk_cost cost least.nodes) (first_le _ _ (best.best least.nodes least.walk)) in
      let same : label.0 ≡ walk_cost cost nodes = omega (arith, low, high, least.costs) in
      record { nodes = nodes; walk = best.walk; ports = told.ports; costs = label.1 ∙ ap Some same }

  certified : (to : Node) (found : PathFound) (cost_found : Option ℕ)
      → MatchOption cost_found ((found.nodes ≡ []) × ((nodes : List Node) → IsWalk step from to nodes → ⊥)) (λ c. (nodes : List Node) × IsBestWalk step cost from to nodes × IsToldOf cost found c nodes)
      → ((Contains reached to → ⊥) × (found.nodes ≡ [])) ⊎ IsLabelledWalk step cost from to found.nodes labels
  certified to found None h = inl (λ there. (let w = walk_from step cost from to ((reach.exact to).0 there) in h.1 w.0 w.1), h.0)
  certified to found (Some c) h = inr (labelled to found c h.0 h.1 h.2)

pub is_certified : (step : Node → Node → Bool) (cost : Node → Node → ℕ) (reached : List Node) (ask : CheckAsk) (found : PathFound) → IsReach step (ask.from ∷ []) reached
    → IsPathFound step cost ask.from ask.to true reached found → ask.nodes ≡ found.nodes → ask.labels ≡ found.labels → IsValid step cost reached ask
is_certified step cost reached ask found reach is nodes labels =
    let are : AreLeastCosts step cost ask.from reached ask.labels = subst (AreLeastCosts step cost ask.from reached) (sym labels) (is.labels refl) in
    record {
      ports = are.ports;
      start = start step cost ask.from reached reach ask.labels are;
      steps = keeps step cost ask.from reached reach ask.labels are;
      walk = subst (λ (shown : List Port). ((Contains reached ask.to → ⊥) × (shown ≡ [])) ⊎ IsLabelledWalk step cost ask.from ask.to shown ask.labels) (sym nodes)
          (certified step cost ask.from reached reach ask.labels are ask.to found found.cost is.path);
    }
