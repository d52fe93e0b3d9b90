-- What links, steps and walks cost.
use Rattle.std.specs.Prelude.{ℕ, ◌+◌, ℤ, pos, negsuc, Bool, true, false, if◌then◌else◌, List, [], ◌∷◌, map, filter, unwrap_or}
use Rattle.std.specs.Ordering.{nat_cmp}
use Rattle.std.specs.Option.{option_map_or}
use Rattle.un_attrs.specs.Attributes.{attribute}
use Rattle.un_defs.specs.declared.port.Node.{Node}
use Rattle.un_defs.specs.declared.link.LinkName.{LinkName}
use Rattle.un_defs.specs.declared.link.LinkName.TheVariants.{Seg, Path, Coin, Assoc}
use Rattle.un_defs.specs.declared.link.Tie.{Tie}
use Rattle.un_defs.specs.declared.walk.Mode.TheVariants.{Any}
use Rattle.un_defs.specs.declared.walk.Barriers.{Barriers}
use Rattle.un_defs.specs.Orders.{least}
use Rattle.un_defs.specs.Ground.{Ground, entry, ties}
use Rattle.un_defs.specs.Reach.{goes_by}
use Rattle.un_ask.specs.declared.typed.Weight.{Weight}
use Rattle.un_ask.specs.declared.typed.Weight.TheVariants.{Steps, Attribute, Unknown}

abbrev pub is_segment : LinkName → Bool
is_segment (Seg line index) = true
is_segment (Path device low high) = false
is_segment (Coin junction terminal line vertex) = false
is_segment (Assoc id) = false

-- a value as a cost: 0 where it is below 0
abbrev pub cost_of_value : ℤ → ℕ
cost_of_value (pos v) = v
cost_of_value (negsuc v) = 0

-- what a segment costs, given the attributes of the node from which the step goes: 1 without a weight,
-- and with one the value of that attribute, 0 where it is absent
abbrev pub segment_cost : Weight → List (ℕ × ℤ) → ℕ
segment_cost Steps attrs = 1
segment_cost (Attribute a) attrs = option_map_or cost_of_value (attribute attrs a) 0
segment_cost Unknown attrs = 0

-- what a link of the node costs: links other than segments cost nothing
abbrev pub link_cost : Ground → Weight → Node → Tie → ℕ
link_cost G w n t = if is_segment t.name then option_map_or (λ s. segment_cost w s.attrs) (entry G n) 0 else 0

-- the costs of the links by which a walk goes from one node to the other
abbrev pub link_costs : Ground → Barriers → Weight → Node → Node → List ℕ
link_costs G B w n m = map (link_cost G w n) (filter (goes_by G B Any n m) (ties G n))

-- a step costs the least of these
abbrev pub step_cost : Ground → Barriers → Weight → Node → Node → ℕ
step_cost G B w n m = unwrap_or (least nat_cmp (link_costs G B w n m)) 0

-- what the steps cost from a node over the ones after it
abbrev pub cost_after : (Node → Node → ℕ) → Node → List Node → ℕ
cost_after cost n [] = 0
cost_after cost n (m ∷ ms) = cost n m + cost_after cost m ms

-- a walk costs the sum of its steps
abbrev pub walk_cost : (Node → Node → ℕ) → List Node → ℕ
walk_cost cost [] = 0
walk_cost cost (n ∷ ms) = cost_after cost n ms
