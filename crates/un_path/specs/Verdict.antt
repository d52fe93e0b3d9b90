-- Whether a certificate is valid, as a test.
use Rattle.std.specs.Prelude.{ℕ, ◌+◌, ◌==◌, nat_le, Bool, true, false, not, ◌&&◌, ◌||◌, List, [], ◌∷◌, length}
use Rattle.std.specs.List.{list_any, list_all}
use Rattle.std.specs.Option.{option_map_or}
use Rattle.un_defs.specs.declared.port.Port.{Port}
use Rattle.un_defs.specs.declared.port.Node.{Node}
use Rattle.un_defs.specs.Orders.{same_port, same_node}
use Rattle.un_ask.specs.declared.results.Label.{Label}
use Rattle.un_ask.specs.declared.typed.CheckAsk.{CheckAsk}
use Rattle.un_path.specs.Costs.{walk_cost}
use Rattle.un_path.specs.Paths.{ports_of, label_ports}
use Rattle.un_path.specs.Valid.{label_at}
use Rattle.un_path.specs.WalkList.{walks_from, ends_in}

-- the lists have the same ports in the same order
abbrev pub same_ports : List Port → List Port → Bool
same_ports [] [] = true
same_ports [] (q ∷ qs) = false
same_ports (p ∷ ps) [] = false
same_ports (p ∷ ps) (q ∷ qs) = same_port p q && same_ports ps qs

-- the node's label is this one
abbrev pub is_label : List Label → Node → ℕ → Bool
is_label labels n c = option_map_or (λ a. a == c) (label_at labels n.port) false

-- where a step leads from the first node to the second, the second one's label is at most the first one's and the step's cost
abbrev pub keeps_step : (Node → Node → Bool) → (Node → Node → ℕ) → List Label → Node → Node → Bool
keeps_step step cost labels n m =
    not (step n m) || option_map_or (λ a. option_map_or (λ b. nat_le b (a + cost n m)) (label_at labels m.port) true) (label_at labels n.port) true

abbrev pub keeps_steps : (Node → Node → Bool) → (Node → Node → ℕ) → List Node → List Label → Bool
keeps_steps step cost reached labels = list_all (λ n. list_all (keeps_step step cost labels n) reached) reached

-- the walk is the one that is shown: it has its ports, ends in the last node, and costs that node's label
abbrev pub is_shown : (Node → Node → ℕ) → CheckAsk → List Node → Bool
is_shown cost ask nodes = ends_in ask.to nodes && (same_ports ask.nodes (ports_of nodes) && is_label ask.labels ask.to (walk_cost cost nodes))

-- no walk is shown, and the last node is not reached
abbrev pub shows_none : List Node → CheckAsk → Bool
shows_none reached ask = same_ports ask.nodes [] && not (list_any (same_node ask.to) reached)

-- some walk is the one that is shown, or there is none
abbrev pub shows_walk : (Node → Node → Bool) → (Node → Node → ℕ) → List Node → CheckAsk → Bool
shows_walk step cost reached ask = shows_none reached ask || list_any (is_shown cost ask) (walks_from step reached (length ask.nodes) ask.from)

-- the labels have the reached ports, in order, and 0 for the first node, each step keeps to them, and the walk is right
abbrev pub is_valid : (Node → Node → Bool) → (Node → Node → ℕ) → List Node → CheckAsk → Bool
is_valid step cost reached ask =
    same_ports (label_ports ask.labels) (ports_of reached)
    && (is_label ask.labels ask.from 0 && (keeps_steps step cost reached ask.labels && shows_walk step cost reached ask))
